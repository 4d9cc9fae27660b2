use Rattle.std.proofs.Common.{ℕ, ◌≤◌}
use Rattle.hubs.specs.SetupsWords.Wiring.{HasWire}
use Rattle.readback_panels.specs.Lowest.{hub_in}
use Rattle.readback_panels.proofs.hub_rows.lowest_entry.Given as goal

abbrev pub invariant-loop-place : goal.invariant-loop-place
invariant-loop-place l = (number : ℕ) → 1 ≤ number → number ≤ l.place → ¬ HasWire l.setup l.exit (hub_in l.row number)
