-- Sets of rows, one for each of sixteen columns, and the words of their rows.
use Rattle.std.proofs.Common.{◌≡◌, ◌∙◌, inl, inr, refl, sym, ap, ℕ, ◌+◌, ◌-◌, ◌*◌, ◌%◌, ◌^◌, ◌<◌, ◌≤◌, ◌&&◌, ◌==◌, nat_lt, Bool, true, false, List, map, length, replicate, slice_index_or, slice_set, bit_and, bit_or, arith, if◌then◌else◌}
use Rattle.std.specs.Prelude.{slice_index}
use Rattle.std.specs.Int.{bit_not}
use Rattle.std.proofs.lemmas.Bool.{cases_lt}
use Rattle.std.proofs.lemmas.Bool.Decides.{eqb_tells, nat_tests}
use Rattle.std.proofs.lemmas.List.{get_or-set_same, get_or-set_other, get_or_past, length-set}
use Rattle.std.proofs.lemmas.Nat.Bits.{bit_at_clear_other, bit_at_clear_same, bit_at_set_other, bit_at_set_same}
use Rattle.card_code.specs.Rows.{passing_place, rows}
use Rattle.card_code.specs.declared.row.Row.{Row as CardRow}
use Rattle.card_code.specs.declared.row.Row.TheVariants.{Zero, One, Two, Three, Four, Five, Six, Seven, Eight, Nine, Eleven, Twelve}
use Rattle.hubs.specs.HubTable.Ranges.{is_within}
use Rattle.net.proofs.Below.machine_sets.BitSets.BitLemmas.{is_bit-above, is_bit-zero}
use Rattle.net.specs.HubSets.{is_bit}
use Rattle.net.specs.HubRows.{has_at}
use Rattle.storage_units.specs.Fields.{row_words}
use Rattle.storage_units.specs.Storage.{blank}
use Rattle.storage_units.specs.Words.{has_column, word_of}
use Rattle.storage_units.proofs.WordLemmas.{word_of-below, word_of-bit, word_of-column, word_of-same}
use mir.Syntax.{w16}

-- the places of the rows
place-low : (row : CardRow) → passing_place row < 12
place-low Nine = omega arith
place-low Eight = omega arith
place-low Seven = omega arith
place-low Six = omega arith
place-low Five = omega arith
place-low Four = omega arith
place-low Three = omega arith
place-low Two = omega arith
place-low One = omega arith
place-low Zero = omega arith
place-low Eleven = omega arith
place-low Twelve = omega arith

-- each of twelve words stands at the place of its row
pub word-at : (words : CardRow → ℕ) (row : CardRow) → slice_index (map words rows) (passing_place row) ≡ words row
word-at words Nine = refl
word-at words Eight = refl
word-at words Seven = refl
word-at words Six = refl
word-at words Five = refl
word-at words Four = refl
word-at words Three = refl
word-at words Two = refl
word-at words One = refl
word-at words Zero = refl
word-at words Eleven = refl
word-at words Twelve = refl

-- and one of them is written there
word-set : (words : CardRow → ℕ) (row : CardRow) (word : ℕ)
    → slice_set (map words rows) (passing_place row) word
    ≡ map (λ other. if passing_place other == passing_place row then word else words other) rows
word-set words Nine word = refl
word-set words Eight word = refl
word-set words Seven word = refl
word-set words Six word = refl
word-set words Five word = refl
word-set words Four word = refl
word-set words Three word = refl
word-set words Two word = refl
word-set words One word = refl
word-set words Zero word = refl
word-set words Eleven word = refl
word-set words Twelve word = refl

-- sets of no rows have blank words
pub words-blank : row_words (replicate 16 0) ≡ blank
unfolding word_of is_bit
words-blank = refl

-- a column is in the word of a row where its set has the row
pub word-column : (sets : List ℕ) (row : CardRow) (column place : ℕ) → 1 ≤ column → column ≤ 16 → place ≡ passing_place row
    → has_at sets (column - 1) place ≡ has_column (slice_index (row_words sets) (passing_place row)) column
word-column sets row column place low high is =
    let within : is_within column 16 ≡ true = grind (arith, nat_tests, low, high) in
    ap (has_at sets (column - 1)) is
    ∙ sym (ap (λ (word : ℕ). has_column word column) (word-at (λ other. word_of (λ c. has_at sets (c - 1) (passing_place other)) 16) row)
    ∙ word_of-column (λ c. has_at sets (c - 1) (passing_place row)) column
    ∙ ap (λ b. b && has_at sets (column - 1) (passing_place row)) within)

-- no column but the sixteen has a row
past : (sets : List ℕ) (k place : ℕ) → length sets ≡ 16 → 16 ≤ k → has_at sets k place ≡ false
past sets k place long high = ap (λ (w : ℕ). is_bit w place) (get_or_past sets k 0 (omega (arith, long, high))) ∙ is_bit-zero place

-- so those that have one are the bits of its word
pub word-bits : (sets : List ℕ) (place k : ℕ) → length sets ≡ 16
    → has_at sets k place ≡ is_bit (word_of (λ column. has_at sets (column - 1) place) 16) k
word-bits sets place k long = elim (cases_lt k 16) [
  | inl low ↦ let index : k ≡ k + 1 - 1 = omega arith in
      ap (λ (j : ℕ). has_at sets j place) index ∙ sym (word_of-bit (λ column. has_at sets (column - 1) place) 16 k low)
  | inr high ↦
      past sets k place long high
      ∙ sym (is_bit-above (word_of (λ column. has_at sets (column - 1) place) 16) 16 k (word_of-below (λ column. has_at sets (column - 1) place) 16) high)
]

-- and those among the first sixteen are all
pub sixteen : (sets : List ℕ) (k place : ℕ) → length sets ≡ 16 → (nat_lt k 16 && has_at sets (0 + k) place) ≡ has_at sets k place
sixteen sets k place long = elim (cases_lt k 16) [
  | inl low ↦ let index : 0 + k ≡ k = omega arith in grind (arith, nat_tests, low, index)
  | inr high ↦ let none = past sets k place long high in grind (arith, nat_tests, high, none)
]

-- a row is put into a set
pub row-set : (set place other : ℕ) (has : Bool) → place < 16 → has ≡ true
    → is_bit (bit_or set (1 * 2 ^ place % 2 ^ 16)) other ≡ (if other == place then has else is_bit set other)
unfolding is_bit
row-set set place other has low on = elim (eqb_tells other place) [
  | inl same ↦ let e = bit_at_set_same w16 set place low in grind (arith, nat_tests, e, same.0, same.1, on)
  | inr apart ↦ let e = bit_at_set_other w16 set place low other apart.1 in grind (arith, nat_tests, e, apart.0)
]

-- or taken from it
pub row-taken : (set place other : ℕ) (has : Bool) → place < 16 → other < 16 → has ≡ false
    → is_bit (bit_and set (bit_not w16 (1 * 2 ^ place % 2 ^ 16))) other ≡ (if other == place then has else is_bit set other)
unfolding is_bit
row-taken set place other has low small off = elim (eqb_tells other place) [
  | inl same ↦ let e = bit_at_clear_same w16 set place low in grind (arith, nat_tests, e, same.0, same.1, off)
  | inr apart ↦ let e = bit_at_clear_other w16 set place low other small apart.1 in grind (arith, nat_tests, e, apart.0)
]

-- the first columns have the row at a place where they are in a word, and the other rows as before; the columns after them are as before
pub record IsPut (count place columns : ℕ) (old new : List ℕ) : Type 0 where
  pub put :
      (k other : ℕ) → k < count → other < 12
      → has_at new k other ≡ (if other == place then is_bit columns k else has_at old k other)
  pub others : (k other : ℕ) → count ≤ k → has_at new k other ≡ has_at old k other
  pub long : length new ≡ 16

-- so it is with one column more
pub IsPut-more : (count place columns set : ℕ) (old now : List ℕ) → count < 16
    → ((other : ℕ) → other < 12 → is_bit set other ≡ (if other == place then is_bit columns count else has_at now count other))
    → IsPut count place columns old now → IsPut (count + 1) place columns old (slice_set now count set)
IsPut-more count place columns set old now inside made before = record {
  put = λ k other below low. elim (eqb_tells k count) [
    | inl same ↦
        ap (λ (w : ℕ). is_bit w other)
        (ap (λ (j : ℕ). slice_index_or (slice_set now count set) j 0) same.1
        ∙ get_or-set_same now count set 0 (let long = before.long in omega (arith, long, inside)))
        ∙ made other low
        ∙ ap (λ b. if other == place then is_bit columns count else b) (before.others count other (omega arith))
        ∙ ap (λ (j : ℕ). if other == place then is_bit columns j else has_at old j other) (sym same.1)
    | inr apart ↦ let here = apart.1 in
        ap (λ (w : ℕ). is_bit w other) (get_or-set_other now count k set 0 here)
        ∙ before.put k other (omega (arith, below, here)) low
  ];
  others = λ k other above.
      ap (λ (w : ℕ). is_bit w other) (get_or-set_other now count k set 0 (λ e. absurd (omega (arith, above, e))))
      ∙ before.others k other (omega (arith, above));
  long = length-set now count set ∙ before.long;
}

-- sets into which a row was put have its word, and the others as before
pub words-put : (old new : List ℕ) (row : CardRow) (columns : ℕ) (test : ℕ → Bool)
    → ((k other : ℕ) → k < 16 → other < 12
    → has_at new k other ≡ (if other == passing_place row then is_bit columns k else has_at old k other))
    → ((n : ℕ) → 1 ≤ n → n ≤ 16 → is_bit columns (n - 1) ≡ test n)
    → row_words new ≡ slice_set (row_words old) (passing_place row) (word_of test 16)
words-put old new row columns test put is =
    (λ i. map (λ other. each other i) rows)
    ∙ sym (word-set (λ other. word_of (λ c. has_at old (c - 1) (passing_place other)) 16) row (word_of test 16))
  where
    chosen : (here : Bool) (one two : ℕ → Bool)
        → word_of (λ c. if here then one c else two c) 16 ≡ (if here then word_of one 16 else word_of two 16)
    chosen true one two = refl
    chosen false one two = refl

    each : (other : CardRow)
        → word_of (λ c. has_at new (c - 1) (passing_place other)) 16
        ≡ (if passing_place other == passing_place row then word_of test 16 else word_of (λ c. has_at old (c - 1) (passing_place other)) 16)
    each other =
        word_of-same (λ c. has_at new (c - 1) (passing_place other))
        (λ c. if passing_place other == passing_place row then test c else has_at old (c - 1) (passing_place other)) 16
        (λ n from to.
        put (n - 1) (passing_place other) (omega (arith, from, to)) (place-low other)
        ∙ ap (λ b. if passing_place other == passing_place row then b else has_at old (n - 1) (passing_place other)) (is n from to))
        ∙ chosen (passing_place other == passing_place row) test (λ c. has_at old (c - 1) (passing_place other))
