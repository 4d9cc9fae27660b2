use Rattle.net.specs.HubSets.{has_hub}
use Rattle.explain_wheels.specs.WaysWords.Tables.{StartsAt}
use Rattle.explain_wheels.proofs.WaysWords.Layers.{IsStartedBelow}
use Rattle.explain_wheels.proofs.ways.search.starts.Given as goal

abbrev pub invariant-loop-number : goal.invariant-loop-number
invariant-loop-number l = IsStartedBelow (StartsAt (has_hub l.exits)) l.number l.steps
