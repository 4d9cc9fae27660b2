use Rattle.net.specs.HubSets.{has_hub}
use Rattle.explain_wheels.specs.WaysWords.Tables.{LeadsAt, StartsAt, missing}
use Rattle.explain_wheels.proofs.WaysWords.Layers.{IsLayered}
use Rattle.explain_wheels.proofs.ways.search.search.Given as goal

abbrev pub invariant-loop-level : goal.invariant-loop-level
invariant-loop-level l = IsLayered (LeadsAt l.setup (has_hub l.contacts)) (StartsAt (has_hub l.exits)) l.level l.steps

abbrev pub decreases-loop-level : goal.decreases-loop-level
decreases-loop-level l = missing l.steps
