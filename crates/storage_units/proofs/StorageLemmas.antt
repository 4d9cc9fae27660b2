-- A row of a storage unit's exits and entries.
use Rattle.std.proofs.Common.{◌≡◌, ◌≤◌, ◌<◌, ◌+◌, ◌-◌, ◌*◌, ◌^◌, ◌∙◌, inl, inr, ap, refl, sym, arith, ℕ, Bool, true, false, ◌&&◌, ◌==◌, List, length}
use Rattle.std.specs.Prelude.{slice_index}
use Rattle.std.proofs.lemmas.Bool.Decides.{eqb_tells, nat_tests}
use Rattle.card_code.specs.Rows.{passing_place}
use Rattle.card_code.specs.declared.row.Row.{Row as CardRow}
use Rattle.hubs.specs.HubTable.Ranges.{is_within}
use Rattle.hubs.specs.declared.hub.Hub.{Hub}
use Rattle.hubs.specs.declared.hub.Hub.TheVariants.{SX, SE}
use Rattle.net.proofs.KindRows.{row_own, row_other, row_bit, SX_numbered, SE_numbered}
use Rattle.net.proofs.SetLemmas.{sets-row}
use Rattle.net.specs.HubSets.{HubSet, has_hub, is_bit, is_in_row, is_in_reach}
use Rattle.net.specs.HubRows.{has_at}
use Rattle.net.specs.RowSets.{is_in_sets}
use Rattle.net.specs.declared.cycle.Cycle.{Cycle}
use Rattle.net.specs.declared.cycle.Point.{Point}
use Rattle.net.specs.declared.cycle.Point.TheVariants.{Row}
use Rattle.storage_units.specs.Fields.{row_words}
use Rattle.storage_units.specs.Storage.{StorageState, storage_emits, holds}
use Rattle.storage_units.specs.Words.{has_column, word_of}
use Rattle.storage_units.proofs.ColumnSets.{word-at, word-bits}
use Rattle.storage_units.proofs.WordLemmas.{word_of-below}

pub within-from : (n last : ℕ) → 1 ≤ n → n ≤ last → is_within n last ≡ true
within-from n last from to = grind (arith, nat_tests)

-- which exits are in the row of a unit's columns
abbrev own_columns : ℕ → ℕ → Hub → Bool
own_columns place bits (SX unit column) = (unit == place) && has_column bits column
own_columns place bits hub = false

-- a row of the exits of a unit has the unit's columns
row_of_columns : (place bits : ℕ) (hub : Hub) → 1 ≤ place → place ≤ 4 → bits < 2 ^ 16
    → is_in_row (SX place 1) bits hub ≡ own_columns place bits hub
row_of_columns place bits (SX unit column) from to small = elim (eqb_tells unit place) [
  | inl same ↦ ap (λ u. is_in_row (SX place 1) bits (SX u column)) same.1
      ∙ row_own (SX place) (742 + (place - 1) * 16) 16 (SX_numbered place (within-from place 4 from to)) bits column (omega arith) small
      ∙ ap (λ b. b && has_column bits column) (sym same.0)
  | inr other ↦
      row_other (SX place) (742 + (place - 1) * 16) 16 (SX_numbered place (within-from place 4 from to)) bits (SX unit column)
      (omega arith) small (λ n same. other.1 (of_unit same))
      ∙ ap (λ b. b && has_column bits column) (sym other.0)
]
  where
    of_unit : {n : ℕ} → SX place n ≡ SX unit column → unit ≡ place
    of_unit same = cc
row_of_columns place bits other from to small =
    row_other (SX place) (742 + (place - 1) * 16) 16 (SX_numbered place (within-from place 4 from to)) bits other (omega arith) small
    (λ n same. cc)

-- the sets of a unit that reads out are what it emits at the rows
pub sets_read_out : (storage : StorageState) (cycle : Cycle) (row : CardRow) (sets : List ℕ) (hub : Hub) → storage.reads_out ≡ true
    → 1 ≤ storage.place → storage.place ≤ 4 → storage.held ≡ row_words sets → length sets ≡ 16
    → is_in_sets (SX storage.place 1) sets (passing_place row) hub ≡ storage_emits storage cycle (Row row) hub
sets_read_out storage cycle row sets hub on from to are long =
    sets-row (SX storage.place 1) hub sets (passing_place row) word (λ k. word-bits sets (passing_place row) k long)
    ∙ row_of_columns storage.place word hub from to (word_of-below (λ column. has_at sets (column - 1) (passing_place row)) 16)
    ∙ own hub
  where
    word : ℕ
    word = word_of (λ column. has_at sets (column - 1) (passing_place row)) 16

    own : (hub : Hub) → own_columns storage.place word hub ≡ storage_emits storage cycle (Row row) hub
    own (SX unit column) =
        ap (λ (b : ℕ). (unit == storage.place) && has_column b column)
        (sym (ap (λ (words : List ℕ). slice_index words (passing_place row)) are
        ∙ word-at (λ other. word_of (λ c. has_at sets (c - 1) (passing_place other)) 16) row))
        ∙ ap (λ out. (out && (unit == storage.place)) && holds storage row column) (sym on)
    own other = refl

-- so it is with the columns that have a row, at its point
pub row_read_out : (storage : StorageState) (cycle : Cycle) (point : Point) (row : CardRow) (sets : List ℕ) (bits : ℕ) (hub : Hub)
    → point ≡ Row row → storage.reads_out ≡ true → 1 ≤ storage.place → storage.place ≤ 4 → storage.held ≡ row_words sets
    → length sets ≡ 16 → ((k : ℕ) → is_bit bits k ≡ has_at sets k (passing_place row))
    → is_in_row (SX storage.place 1) bits hub ≡ storage_emits storage cycle point hub
row_read_out storage cycle point row sets bits hub at on from to are long having =
    sym (sets-row (SX storage.place 1) hub sets (passing_place row) bits (λ k. sym (having k)))
    ∙ sets_read_out storage cycle row sets hub on from to are long
    ∙ ap (λ (p : Point). storage_emits storage cycle p hub) (sym at)

-- a unit that doesn't read out is silent
pub is_silent : (storage : StorageState) (cycle : Cycle) (point : Point) (hub : Hub) → storage.reads_out ≡ false
    → false ≡ storage_emits storage cycle point hub
is_silent storage cycle (Row row) (SX unit column) off =
    ap (λ out. (out && (unit == storage.place)) && holds storage row column) (sym off)
is_silent storage cycle point hub off = refl

-- the columns of a row of the entries are those that are impulsed
pub columns_read : (unit bits columns : ℕ) (set : HubSet) → 1 ≤ unit → unit ≤ 4
    → ((hub : Hub) → is_in_reach (SE unit 1) hub ≡ true → is_in_row (SE unit 1) bits hub ≡ has_hub set hub)
    → ((k : ℕ) → k < 16 → is_bit columns k ≡ is_bit bits k)
    → (n : ℕ) → 1 ≤ n → n ≤ 16 → is_bit columns (n - 1) ≡ has_hub set (SE unit n)
columns_read unit bits columns set from to read low n first last =
    low (n - 1) (omega (arith, first, last))
    ∙ row_bit (SE unit) (1620 + (unit - 1) * 16) 16 (SE_numbered unit (within-from unit 4 from to)) bits n set
    (within-from n 16 first last) (omega arith) read
