-- Helper words: what the points of a cycle leave as it was.
use Rattle.std.specs.Prelude.{◌≡◌, ℕ, ◌≤◌, false}
use Rattle.carriage.specs.Carriage.{CarriageState}
use Rattle.net.specs.declared.cycle.Cycle.{Cycle}
use Rattle.program_unit.specs.Program.{ProgramState}
use Rattle.machine.specs.Ends.{is_card}
use Rattle.machine.specs.Machine.{MachineState}

-- What a point leaves of the program unit.
pub record KeepsProgram (cycle : Cycle) (old now : ProgramState) : Type 0 where
  pub printing : now.printing ≡ old.printing
  pub stage : now.stage ≡ old.stage
  pub highest : is_card cycle ≡ false → now.highest ≡ old.highest

-- from one to three lines are asked for
pub record AsksLines (lines : ℕ) : Type 0 where
  pub from : 1 ≤ lines
  pub to : lines ≤ 3

-- What a point leaves of the carriage.
pub record KeepsCarriage (old now : CarriageState) : Type 0 where
  pub form : now.form ≡ old.form
  pub printing : now.printing ≡ old.printing
  pub spot : now.spot ≡ old.spot
  pub lines : AsksLines old.asked.lines → AsksLines now.asked.lines

-- What points leave of a machine.
pub record Keeps (cycle : Cycle) (old now : MachineState) : Type 0 where
  pub stations : now.stations ≡ old.stations
  pub program : KeepsProgram cycle old.program now.program
  pub carriage : KeepsCarriage old.carriage now.carriage
