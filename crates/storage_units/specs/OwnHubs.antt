-- Storage units keep to their own hubs.
use Rattle.std.proofs.Common.{◌≡◌, ap, refl, ℕ, ◌+◌, ◌&&◌, Bool, true, arith}
use Rattle.std.specs.Prelude.{◌==◌}
use Rattle.std.proofs.lemmas.Bool.Decides.{nat_tests}
use Rattle.hubs.specs.declared.hub.Hub.{Hub}
use Rattle.hubs.specs.declared.hub.Hub.TheVariants.{SX, SE, SI, SO}
use Rattle.net.specs.Panel.{owner_of, reader_of}
use Rattle.net.specs.Units.{KeepsToItsOwn}
use Rattle.net.specs.declared.cycle.Cycle.{Cycle}
use Rattle.net.specs.declared.cycle.Point.{Point}
use Rattle.net.specs.declared.cycle.Point.TheVariants.{C, Row, K}
use Rattle.storage_units.specs.Kinds.{storage_kind}
use Rattle.storage_units.specs.Storage.{StorageState, blank, columns_in, holds, received_at, storage_emits, storage_number, storage_sensed}
use Rattle.storage_units.specs.Words.{word_of}

own_place : (out held : Bool) (unit place : ℕ) → ((out && (unit == place)) && held) ≡ true → 34 + unit ≡ 34 + place
own_place out held unit place on = grind (arith, nat_tests, on)

emits-own : (storage : StorageState) (cycle : Cycle) (point : Point) (hub : Hub)
    → storage_emits storage cycle point hub ≡ true → owner_of hub ≡ storage_number storage
emits-own storage cycle (Row row) (SX unit column) on = own_place storage.reads_out (holds storage row column) unit storage.place on
emits-own storage cycle point hub on = cc

sensed-own : (storage : StorageState) (cycle : Cycle) (point : Point) (one other : Hub → Bool)
    → ((hub : Hub) → reader_of hub ≡ storage_number storage → one hub ≡ other hub)
    → storage_sensed storage cycle point one ≡ storage_sensed storage cycle point other
sensed-own storage cycle C one other same =
    let reads_in = same (SI storage.place) refl in
    let reads_out = same (SO storage.place) refl in
    λ i. record storage { received = blank; reads_in = reads_in i; reads_out = reads_out i }
sensed-own storage cycle (Row row) one other same =
    let columns : columns_in one storage.place ≡ columns_in other storage.place =
    λ i. word_of (λ column. same (SE storage.place column) refl i) 16 in
    ap (λ (word : ℕ). received_at row word storage) columns
sensed-own storage cycle K one other same = refl

number-kept : (storage : StorageState) (cycle : Cycle) (point : Point) (picture : Hub → Bool)
    → storage_number (storage_sensed storage cycle point picture) ≡ storage_number storage
number-kept storage cycle C picture = refl
number-kept storage cycle (Row row) picture = refl
number-kept storage cycle K picture = refl

pub storage_keeps : KeepsToItsOwn storage_kind
storage_keeps = record {
  emits_own = emits-own;
  closes_own = λ state cycle point hub on. cc;
  senses_own = sensed-own;
  keeps_number = number-kept;
  ends_with_number = λ state cycle. refl;
}
