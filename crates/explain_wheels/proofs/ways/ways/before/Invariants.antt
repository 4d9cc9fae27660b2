use Rattle.std.proofs.Common.{◌≡◌, ◌<◌, ◌+◌, ℕ}
use Rattle.net.specs.HubSets.{has_hub}
use Rattle.explain_wheels.specs.WaysWords.Tables.{at, LeadsAt}
use Rattle.explain_wheels.proofs.ways.ways.before.Given as goal

abbrev pub invariant-loop-from : goal.invariant-loop-from
invariant-loop-from l =
    (other : ℕ) → other < l.from → at l.steps other + 1 ≡ at l.steps l.to → LeadsAt l.setup (has_hub l.contacts) other l.to → ⊥
