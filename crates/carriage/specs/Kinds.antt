-- The carriage as a kind of units.
use Rattle.carriage.specs.Carriage.{CarriageState, carriage_ended, carriage_number, carriage_sensed}
use Rattle.net.specs.Nothing.{closes_nothing, emits_nothing}
use Rattle.net.specs.Units.{Kind}

-- the carriage, unit 44
abbrev pub carriage_kind : Kind CarriageState
carriage_kind = record {
  emits = emits_nothing;
  closes = closes_nothing;
  sensed = carriage_sensed;
  ended = carriage_ended;
  number = carriage_number;
}
