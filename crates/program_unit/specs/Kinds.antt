-- The program unit as a kind of units.
use Rattle.net.specs.Nothing.{closes_nothing}
use Rattle.net.specs.Units.{Kind}
use Rattle.program_unit.specs.Program.{ProgramState, program_emits, program_ended, program_number, program_sensed}

-- the program unit, unit 45
abbrev pub program_kind : Kind ProgramState
program_kind = record {
  emits = program_emits;
  closes = closes_nothing;
  sensed = program_sensed;
  ended = program_ended;
  number = program_number;
}
