-- The carriage keeps to its own hubs.
use Rattle.std.proofs.Common.{◌≡◌, refl, ℕ, zero, suc, Bool, Some, if◌then◌else◌}
use Rattle.carriage.specs.Asked.{channel_asked, lowest_from}
use Rattle.carriage.specs.Carriage.{CarriageState, carriage_sensed}
use Rattle.hubs.specs.declared.hub.Hub.{Hub}
use Rattle.hubs.specs.declared.hub.Hub.TheVariants.{RS, SK, SP}
use Rattle.net.specs.Panel.{reader_of}
use Rattle.net.specs.declared.cycle.Cycle.{Cycle}
use Rattle.net.specs.declared.cycle.Point.{Point}
use Rattle.net.specs.declared.cycle.Point.TheVariants.{C, Row, K}
use Rattle.net.specs.Units.{KeepsToItsOwn}
use Rattle.carriage.specs.Kinds.{carriage_kind}

lowest-same : (others channel : ℕ) (one other : Hub → Bool)
    → ((hub : Hub) → reader_of hub ≡ 44 → one hub ≡ other hub)
    → lowest_from channel others one ≡ lowest_from channel others other
lowest-same zero channel one other same = refl
lowest-same (suc others) channel one other same =
    let higher = lowest-same others (suc channel) one other same in
    λ i. if same (SK channel) refl i then Some channel else higher i

carriage-senses : (carriage : CarriageState) (cycle : Cycle) (point : Point) (one other : Hub → Bool)
    → ((hub : Hub) → reader_of hub ≡ 44 → one hub ≡ other hub)
    → carriage_sensed carriage cycle point one ≡ carriage_sensed carriage cycle point other
carriage-senses carriage cycle C one other same =
    let channel : channel_asked one ≡ channel_asked other = lowest-same 12 1 one other same in
    λ i. record carriage {
      asked = record {
        lines = if same (SP 3) refl i then 3 else if same (SP 2) refl i then 2 else 1;
        channel = channel i;
        restore = same RS refl i;
      };
    }
carriage-senses carriage cycle (Row row) one other same = refl
carriage-senses carriage cycle K one other same = refl

pub carriage_keeps : KeepsToItsOwn carriage_kind
carriage_keeps = record {
  emits_own = λ state cycle point hub on. cc;
  closes_own = λ state cycle point hub on. cc;
  senses_own = carriage-senses;
  keeps_number = λ state cycle point picture. refl;
  ends_with_number = λ state cycle. refl;
}
