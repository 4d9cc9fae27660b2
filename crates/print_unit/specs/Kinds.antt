-- The emitters and the print wheels as kinds of units.
use Rattle.net.specs.Nothing.{closes_nothing, emits_nothing, ends_unchanged, senses_nothing}
use Rattle.net.specs.Units.{Kind}
use Rattle.print_unit.specs.Emitters.{emitters_emit, emitters_number}
use Rattle.print_unit.specs.Wheels.{WheelsState, wheels_ended, wheels_number, wheels_sensed}
use Rattle.print_unit.specs.declared.emitters.Emitters.{Emitters}

-- the emitters, unit 42
abbrev pub emitters_kind : Kind Emitters
emitters_kind = record {
  emits = emitters_emit;
  closes = closes_nothing;
  sensed = senses_nothing;
  ended = ends_unchanged;
  number = emitters_number;
}

-- the print wheels, unit 43
abbrev pub wheels_kind : Kind WheelsState
wheels_kind = record {
  emits = emits_nothing;
  closes = closes_nothing;
  sensed = wheels_sensed;
  ended = wheels_ended;
  number = wheels_number;
}
