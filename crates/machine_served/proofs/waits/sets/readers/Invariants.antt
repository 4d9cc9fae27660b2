use Rattle.std.proofs.Common.{◌≡◌, ◌↔◌, ◌+◌, ℕ, true}
use Rattle.net.specs.HubSets.{has_hub, is_bit}
use Rattle.machine_served.proofs.WaitsWords.Readers.{part_below}
use Rattle.machine_served.specs.WaitsWords.Waits.{SensesOther}
use Rattle.machine_served.proofs.waits.sets.readers.Given as goal

abbrev pub invariant-loop-number : goal.invariant-loop-number
invariant-loop-number l =
    (place : ℕ) → (is_bit l.units place ≡ true) ↔ SensesOther (place + 1) l.but (part_below l.number (has_hub l.picture))
