use Rattle.std.proofs.Common.{◌≡◌, ◌↔◌, ℕ, ◌+◌, ◌-◌, arith, true, slice_index_or, subst}
use Rattle.net.specs.HubSets.{is_bit}
use Rattle.machine_served.specs.ServedWords.Orders.{unit_count}
use Rattle.machine_served.specs.ServedWords.Units.{IsUnit}
use Rattle.machine_served.specs.ServedWords.Waits.{WaitsFor}
use Rattle.machine_served.proofs.waits.waiting.NetWaits.waits.Goals as goal

pub returns : goal.returns
returns c wiring is place =
    let one : c.args.unit - 1 + 1 ≡ c.args.unit = omega (arith, c.requires.0) in
    subst
    (λ (unit : ℕ). (is_bit (slice_index_or c.all_waits.result (c.args.unit - 1) 0) place ≡ true)
    ↔ (IsUnit unit_count (place + 1) × WaitsFor wiring unit (place + 1)))
    one
    (c.all_waits.ensures wiring is (c.args.unit - 1) (omega (arith, c.requires.0), omega (arith, c.requires.0, c.requires.1)) place)
