-- A machine that its caller takes through its cycles one by one: its wires and its units.
use Rattle.std.specs.Prelude.{◌≡◌}
use Rattle.hubs.specs.SetupsWords.Wiring.{Wiring}
use Rattle.net.specs.Nets.{NetRows, IsNetOf}
use Rattle.machine.specs.Machine.{MachineState, machine_at_start}

pub record Stepped : Type 0 where
  pub net : NetRows
  pub machine : MachineState

-- the machine of a setup before any cycle, with no card in it
pub record IsUnbegun (wiring : Wiring) (stepped : Stepped) : Type 0 where
  pub net : IsNetOf wiring stepped.net
  pub machine : stepped.machine ≡ machine_at_start wiring
