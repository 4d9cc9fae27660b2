use Rattle.net.specs.HubSets.{has_hub}
use Rattle.explain_wheels.specs.WaysWords.Tables.{LeadsAt, IsPass, IsLedAt}
use Rattle.explain_wheels.proofs.ways.search.spread_all.Given as goal

abbrev pub invariant-loop-from : goal.invariant-loop-from
invariant-loop-from l =
    IsPass l.level (IsLedAt (LeadsAt l.setup (has_hub l.contacts)) l.level l.from l.initial.steps) l.initial.steps l.steps l.added
