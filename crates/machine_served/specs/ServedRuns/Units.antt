-- The units of a machine, one by one.
use Rattle.std.specs.Prelude.{◌≡◌, ◌≢◌, ℕ, Bool}
use Rattle.hubs.specs.declared.hub.Hub.{Hub}
use Rattle.machine.specs.Machine.{MachineState}
use Rattle.net.specs.declared.cycle.Cycle.{Cycle}
use Rattle.net.specs.declared.cycle.Point.{Point}
use Rattle.machine_served.specs.ServedUnits.AnyUnit.{any_sensed, unit_at}

-- one unit senses a picture, and the others stay as they are
pub record SensesOne (cycle : Cycle) (point : Point) (picture : Hub → Bool) (unit : ℕ) (old new : MachineState) : Type 0 where
  pub own : unit_at new unit ≡ any_sensed (unit_at old unit) cycle point picture
  pub others : (other : ℕ) → other ≢ unit → unit_at new other ≡ unit_at old other
