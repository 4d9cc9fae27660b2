-- The pilots, group indication and the column splits keep to their own hubs.
use Rattle.std.proofs.Common.{◌≡◌, ap, refl, ◌&&◌, Bool, true, List, if◌then◌else◌}
use Rattle.hubs.specs.declared.hub.Hub.{Hub}
use Rattle.hubs.specs.declared.hub.Hub.TheVariants.{CSD, CSZ, IX, PIN, PIT, PIX}
use Rattle.net.specs.Panel.{owner_of, reader_of}
use Rattle.net.specs.declared.cycle.Cycle.{Cycle}
use Rattle.net.specs.declared.cycle.Cycle.TheVariants.{Card}
use Rattle.net.specs.declared.cycle.Point.{Point}
use Rattle.net.specs.declared.cycle.Point.TheVariants.{Row}
use Rattle.selectors.specs.Indicate.{Latches, indicate_closes}
use Rattle.selectors.specs.Numbered.{tests_to}
use Rattle.selectors.specs.Pilots.{PilotStates, is_pickup_point, moves_pilots, pickups, pilots_closes, pilots_sensed}
use Rattle.selectors.specs.Splits.{split_closes}
use Rattle.net.specs.Units.{KeepsToItsOwn}
use Rattle.selectors.specs.Kinds.{indicate_kind, pilots_kind, splits_kind}

pilots-close : (pilots : PilotStates) (cycle : Cycle) (point : Point) (hub : Hub)
    → pilots_closes pilots cycle point hub ≡ true → owner_of hub ≡ 39
pilots-close pilots cycle point (PIN pilot position) on = refl
pilots-close pilots cycle point (PIT pilot position) on = refl
pilots-close pilots cycle point other on = cc

pickups-same : (one other : Hub → Bool) → ((hub : Hub) → reader_of hub ≡ 39 → one hub ≡ other hub)
    → pickups one ≡ pickups other
pickups-same one other same = λ i. tests_to 16 (λ pilot. same (PIX pilot) refl i)

pilots-sense : (pilots : PilotStates) (cycle : Cycle) (point : Point) (one other : Hub → Bool)
    → ((hub : Hub) → reader_of hub ≡ 39 → one hub ≡ other hub)
    → pilots_sensed pilots cycle point one ≡ pilots_sensed pilots cycle point other
pilots-sense pilots cycle point one other same =
    ap
    (λ (picked : List Bool). record pilots {
      picked_up = if moves_pilots cycle && is_pickup_point point then picked else pilots.picked_up;
    })
    (pickups-same one other same)

pub pilots_keep : KeepsToItsOwn pilots_kind
pilots_keep = record {
  emits_own = λ state cycle point hub on. cc;
  closes_own = pilots-close;
  senses_own = pilots-sense;
  keeps_number = λ state cycle point picture. refl;
  ends_with_number = λ state cycle. refl;
}

indicate-closes : (latches : Latches) (cycle : Cycle) (point : Point) (hub : Hub)
    → indicate_closes latches cycle point hub ≡ true → owner_of hub ≡ 40
indicate-closes latches Card point (IX level position) on = refl
indicate-closes latches cycle point hub on = cc

pub indicate_keeps : KeepsToItsOwn indicate_kind
indicate_keeps = record {
  emits_own = λ state cycle point hub on. cc;
  closes_own = indicate-closes;
  senses_own = λ state cycle point one other same. refl;
  keeps_number = λ state cycle point picture. refl;
  ends_with_number = λ state cycle. refl;
}

split-closes : (point : Point) (hub : Hub) → split_closes point hub ≡ true → owner_of hub ≡ 41
split-closes (Row row) (CSD split) on = refl
split-closes (Row row) (CSZ split) on = refl
split-closes point hub on = cc

pub splits_keep : KeepsToItsOwn splits_kind
splits_keep = record {
  emits_own = λ state cycle point hub on. cc;
  closes_own = λ state cycle point hub on. split-closes point hub on;
  senses_own = λ state cycle point one other same. refl;
  keeps_number = λ state cycle point picture. refl;
  ends_with_number = λ state cycle. refl;
}
