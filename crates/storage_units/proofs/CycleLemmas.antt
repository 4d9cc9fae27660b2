-- A storage unit through a cycle.
use Rattle.std.proofs.Common.{◌≡◌, ◌∙◌, ap, refl, arith, ℕ, Bool, true, false, ◌&&◌, ◌==◌, List, [], ◌∷◌}
use Rattle.std.specs.Prelude.{map}
use Rattle.std.proofs.lemmas.Bool.Decides.{nat_tests}
use Rattle.card_code.specs.declared.row.Row.{Row as CardRow}
use Rattle.card_code.specs.declared.row.Row.TheVariants.{Zero, One, Two, Three, Four, Five, Six, Seven, Eight, Nine, Eleven, Twelve}
use Rattle.hubs.specs.HubTable.Ranges.{is_within}
use Rattle.hubs.specs.declared.hub.Hub.{Hub}
use Rattle.hubs.specs.declared.hub.Hub.TheVariants.{SX, SE, SI, SO}
use Rattle.net.specs.WholeCycles.{after_points}
use Rattle.net.specs.declared.cycle.Cycle.{Cycle}
use Rattle.net.specs.declared.cycle.Point.{Point}
use Rattle.net.specs.declared.cycle.Point.TheVariants.{C, Row, K}
use Rattle.storage_units.specs.Storage.{StorageState, blank, storage_emits, storage_sensed, storage_ended, holds, columns_in}
use Rattle.storage_units.specs.WholeCycles.{after_cycle}
use Rattle.storage_units.specs.Words.{has_column}
use Rattle.storage_units.proofs.ColumnSets.{word-at}
use Rattle.storage_units.proofs.WordLemmas.{word_of-column}

-- a unit that was told so reads in
pub reads_in_whole : (storage : StorageState) (cycle : Cycle) (pictures : Point → Hub → Bool) (row : CardRow) (column : ℕ)
    → pictures C (SI storage.place) ≡ true
    → holds (after_cycle cycle pictures storage) row column
    ≡ (is_within column 16 && pictures (Row row) (SE storage.place column))
reads_in_whole storage cycle pictures row column told = by (pictures C (SI storage.place)) told
  where
    words : CardRow → ℕ
    words row = columns_in (pictures (Row row)) storage.place

    by : (told : Bool) → told ≡ true
        → holds (storage_ended (after_points storage_sensed cycle pictures (Row Nine ∷ Row Eight ∷ Row Seven ∷ Row Six ∷ Row Five ∷ Row Four ∷ Row Three
        ∷ Row Two ∷ Row One ∷ Row Zero ∷ Row Eleven ∷ Row Twelve ∷ K ∷ [])
        (record storage { received = blank; reads_in = told; reads_out = pictures C (SO storage.place) })) cycle) row column
        ≡ (is_within column 16 && pictures (Row row) (SE storage.place column))
    by true is = ap (λ word. has_column word column) (word-at words row)
        ∙ word_of-column (λ column. pictures (Row row) (SE storage.place column)) column
    by false is = cc

-- a unit that wasn't told so keeps what it holds
pub keeps_held : (storage : StorageState) (cycle : Cycle) (pictures : Point → Hub → Bool) (row : CardRow) (column : ℕ)
    → pictures C (SI storage.place) ≡ false
    → holds (after_cycle cycle pictures storage) row column ≡ holds storage row column
keeps_held storage cycle pictures row column told = by (pictures C (SI storage.place)) told
  where
    by : (told : Bool) → told ≡ false
        → holds (storage_ended (after_points storage_sensed cycle pictures (Row Nine ∷ Row Eight ∷ Row Seven ∷ Row Six ∷ Row Five ∷ Row Four ∷ Row Three
        ∷ Row Two ∷ Row One ∷ Row Zero ∷ Row Eleven ∷ Row Twelve ∷ K ∷ [])
        (record storage { received = blank; reads_in = told; reads_out = pictures C (SO storage.place) })) cycle) row column
        ≡ holds storage row column
    by false is = refl
    by true is = cc

-- what is sensed at rows changes nothing of what is emitted at one
emits_as_before : (cycle : Cycle) (pictures : Point → Hub → Bool) (before : List CardRow) (storage : StorageState) (row : CardRow) (hub : Hub)
    → storage_emits (after_points storage_sensed cycle pictures (map Row before) storage) cycle (Row row) hub ≡ storage_emits storage cycle (Row row) hub
emits_as_before cycle pictures [] storage row hub = refl
emits_as_before cycle pictures (first ∷ others) storage row hub =
    emits_as_before cycle pictures others (storage_sensed storage cycle (Row first) (pictures (Row first))) row hub

-- a unit emits what it held at the start, where it was told to read out
pub reads_out_start : (storage : StorageState) (cycle : Cycle) (pictures : Point → Hub → Bool) (before : List CardRow) (row : CardRow) (column : ℕ)
    → storage_emits (after_points storage_sensed cycle pictures (C ∷ map Row before) storage) cycle (Row row) (SX storage.place column)
    ≡ (pictures C (SO storage.place) && holds storage row column)
reads_out_start storage cycle pictures before row column =
    emits_as_before cycle pictures before (record storage {
      received = blank;
      reads_in = pictures C (SI storage.place);
      reads_out = pictures C (SO storage.place);
    }) row (SX storage.place column)
    ∙ own_unit (pictures C (SO storage.place)) storage.place (holds storage row column)
  where
    own_unit : (out : Bool) (place : ℕ) (held : Bool) → ((out && (place == place)) && held) ≡ (out && held)
    own_unit out place held = grind (arith, nat_tests)
