-- The stations and comparing as kinds of units.
use Rattle.net.specs.Nothing.{closes_nothing, senses_nothing}
use Rattle.net.specs.Units.{Kind}
use Rattle.stations.specs.Comparing.{Compared, comparing_emits, comparing_ended, comparing_number, comparing_sensed}
use Rattle.stations.specs.Stations.{StationCards, stations_emits, stations_ended, stations_number}

-- the reading stations, unit 1
abbrev pub stations_kind : Kind StationCards
stations_kind = record {
  emits = stations_emits;
  closes = closes_nothing;
  sensed = senses_nothing;
  ended = stations_ended;
  number = λ cards. stations_number;
}

-- comparing, unit 2
abbrev pub comparing_kind : Kind Compared
comparing_kind = record {
  emits = comparing_emits;
  closes = closes_nothing;
  sensed = comparing_sensed;
  ended = comparing_ended;
  number = λ compared. comparing_number;
}
