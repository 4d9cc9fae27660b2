-- The stations and comparing keep to their own hubs.
use Rattle.std.specs.Prelude.{◌≡◌, ◌||◌, refl, ℕ, Bool, true, false, List, Option}
use Rattle.card_code.specs.Rows.{passing_place}
use Rattle.card_code.specs.declared.row.Row.{Row as CardRow}
use Rattle.hubs.specs.declared.hub.Hub.{Hub}
use Rattle.hubs.specs.declared.hub.Hub.TheVariants.{FR, SR, CX, CA, CB}
use Rattle.net.specs.Panel.{owner_of, reader_of}
use Rattle.net.specs.Units.{KeepsToItsOwn}
use Rattle.net.specs.declared.cycle.Cycle.{Cycle}
use Rattle.net.specs.declared.cycle.Cycle.TheVariants.{RunIn, Card}
use Rattle.net.specs.declared.cycle.Point.{Point}
use Rattle.net.specs.declared.cycle.Point.TheVariants.{Row, K}
use Rattle.stations.specs.Comparing.{Compared, after_row, comparing_emits, comparing_sensed, differences_emit}
use Rattle.stations.specs.Kinds.{comparing_kind, stations_kind}
use Rattle.stations.specs.Stations.{StationCards, first_emits, second_emits, stations_emits}

-- one of two tests holds
either : (one other : Bool) (n m : ℕ) → (one ≡ true → n ≡ m) → (other ≡ true → n ≡ m) → (one || other) ≡ true → n ≡ m
either true other n m first second on = first refl
either false other n m first second on = second on

first-own : (card : Option (List ℕ)) (row : CardRow) (hub : Hub) → first_emits card row hub ≡ true → owner_of hub ≡ 1
first-own card row (FR column) on = refl
first-own card row other on = cc

second-own : (card : Option (List ℕ)) (row : CardRow) (hub : Hub) → second_emits card row hub ≡ true → owner_of hub ≡ 1
second-own card row (SR column) on = refl
second-own card row other on = cc

stations-own : (cards : StationCards) (cycle : Cycle) (point : Point) (hub : Hub)
    → stations_emits cards cycle point hub ≡ true → owner_of hub ≡ 1
stations-own cards RunIn (Row row) hub on = first-own cards.first row hub on
stations-own cards Card (Row row) hub on =
    either (first_emits cards.first row hub) (second_emits cards.second row hub) (owner_of hub) 1
    (first-own cards.first row hub) (second-own cards.second row hub) on
stations-own cards cycle point hub on = cc

differences-own : (compared : Compared) (hub : Hub) → differences_emit compared hub ≡ true → owner_of hub ≡ 2
differences-own compared (CX position) on = refl
differences-own compared other on = cc

comparing-own : (compared : Compared) (cycle : Cycle) (point : Point) (hub : Hub)
    → comparing_emits compared cycle point hub ≡ true → owner_of hub ≡ 2
comparing-own compared Card K hub on = differences-own compared hub on
comparing-own compared cycle point hub on = cc

senses-own : (compared : Compared) (cycle : Cycle) (point : Point) (one other : Hub → Bool)
    → ((hub : Hub) → reader_of hub ≡ 2 → one hub ≡ other hub)
    → comparing_sensed compared cycle point one ≡ comparing_sensed compared cycle point other
senses-own compared Card (Row row) one other agree = λ i. record {
  first = after_row (passing_place row) (λ p. agree (CA p) refl i) compared.first;
  second = after_row (passing_place row) (λ p. agree (CB p) refl i) compared.second;
}
senses-own compared cycle point one other agree = refl

pub stations_keep : KeepsToItsOwn stations_kind
stations_keep = record {
  emits_own = stations-own;
  closes_own = λ state cycle point hub on. cc;
  senses_own = λ state cycle point one other same. refl;
  keeps_number = λ state cycle point picture. refl;
  ends_with_number = λ state cycle. refl;
}

pub comparing_keeps : KeepsToItsOwn comparing_kind
comparing_keeps = record {
  emits_own = comparing-own;
  closes_own = λ state cycle point hub on. cc;
  senses_own = senses-own;
  keeps_number = λ state cycle point picture. refl;
  ends_with_number = λ state cycle. refl;
}
