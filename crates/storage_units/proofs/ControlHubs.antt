-- The hubs SI and SO of the four storage units follow one another.
use Rattle.std.proofs.Common.{◌≡◌, ◌∙◌, refl, ℕ, ◌+◌, ◌-◌, ◌≤◌, Bool, Some, arith}
use Rattle.std.proofs.lemmas.Bool.Decides.{nat_tests}
use Rattle.hubs.specs.Hubs.{number_of}
use Rattle.hubs.specs.declared.hub.Hub.{Hub}
use Rattle.hubs.specs.declared.hub.Hub.TheVariants.{SI, SO}
use Rattle.net.specs.HubSets.{is_bit}
use Rattle.net.specs.Orders.{IsRowOf}
use Rattle.net.specs.declared.cycle.Cycle.{Cycle}
use Rattle.net.specs.declared.cycle.Point.TheVariants.{C}
use Rattle.net.proofs.Rows.{row_read}
use Rattle.storage_units.specs.Storage.{StorageState, blank, storage_sensed}

number_of-SI : (unit : ℕ) → 1 ≤ unit → unit ≤ 4 → number_of (SI unit) ≡ Some (1685 + (unit - 1))
number_of-SI unit from to = grind (arith, nat_tests)

number_of-SO : (unit : ℕ) → 1 ≤ unit → unit ≤ 4 → number_of (SO unit) ≡ Some (1685 + (unit + 3))
number_of-SO unit from to = grind (arith, nat_tests)

-- what a unit senses at the control point, by the bits of the row
pub controls-sensed : (unit : StorageState) (cycle : Cycle) (picture : Hub → Bool) (bits : ℕ) (reads_in reads_out : Bool) → 1 ≤ unit.place
    → unit.place ≤ 4 → IsRowOf (SI 1) picture bits → reads_in ≡ is_bit bits (unit.place - 1) → reads_out ≡ is_bit bits (unit.place + 3)
    → record unit { received = blank; reads_in = reads_in; reads_out = reads_out } ≡ storage_sensed unit cycle C picture
controls-sensed unit cycle picture bits reads_in reads_out from to row is and_is =
    let one = is ∙ row_read (SI 1) (SI unit.place) 1685 (unit.place - 1) bits picture refl (number_of-SI unit.place from to) (omega (arith, to)) row in
    let other = and_is ∙ row_read (SI 1) (SO unit.place) 1685 (unit.place + 3) bits picture refl (number_of-SO unit.place from to) (omega (arith, to)) row in
    λ i. record unit { received = blank; reads_in = one i; reads_out = other i }
