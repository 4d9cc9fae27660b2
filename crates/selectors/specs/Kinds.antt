-- The pilots, group indication and the column splits as kinds of units.
use Rattle.net.specs.Nothing.{emits_nothing, ends_unchanged, senses_nothing}
use Rattle.net.specs.Units.{Kind}
use Rattle.selectors.specs.Indicate.{Latches, indicate_closes, indicate_ended, indicate_number}
use Rattle.selectors.specs.Pilots.{PilotStates, pilots_closes, pilots_ended, pilots_number, pilots_sensed}
use Rattle.selectors.specs.Splits.{splits_closes, splits_number}
use Rattle.selectors.specs.declared.splits.Splits.{Splits}

-- the pilots, unit 39
abbrev pub pilots_kind : Kind PilotStates
pilots_kind = record {
  emits = emits_nothing;
  closes = pilots_closes;
  sensed = pilots_sensed;
  ended = pilots_ended;
  number = pilots_number;
}

-- group indication, unit 40
abbrev pub indicate_kind : Kind Latches
indicate_kind = record {
  emits = emits_nothing;
  closes = indicate_closes;
  sensed = senses_nothing;
  ended = indicate_ended;
  number = indicate_number;
}

-- the column splits, unit 41
abbrev pub splits_kind : Kind Splits
splits_kind = record {
  emits = emits_nothing;
  closes = splits_closes;
  sensed = senses_nothing;
  ended = ends_unchanged;
  number = splits_number;
}
