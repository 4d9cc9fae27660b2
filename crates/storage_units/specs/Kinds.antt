-- Storage units as a kind of units.
use Rattle.net.specs.Nothing.{closes_nothing}
use Rattle.net.specs.Units.{Kind}
use Rattle.storage_units.specs.Storage.{StorageState, storage_emits, storage_ended, storage_number, storage_sensed}

-- a storage unit, one of the units 35 to 38
abbrev pub storage_kind : Kind StorageState
storage_kind = record {
  emits = storage_emits;
  closes = closes_nothing;
  sensed = storage_sensed;
  ended = storage_ended;
  number = storage_number;
}
