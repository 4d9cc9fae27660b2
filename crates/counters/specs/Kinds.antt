-- Counter groups as a kind of units.
use Rattle.counters.specs.Counters.{Counter, counter_closes, counter_emits, counter_ended, counter_number, counter_sensed}
use Rattle.net.specs.Units.{Kind}

-- a counter group, one of the units 3 to 34
abbrev pub counter_kind : Kind Counter
counter_kind = record {
  emits = counter_emits;
  closes = counter_closes;
  sensed = counter_sensed;
  ended = counter_ended;
  number = counter_number;
}
