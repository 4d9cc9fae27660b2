-- Sets of rows by their places, and the columns that they stand for: tested set by set.
use Rattle.std.proofs.Common.{◌≡◌, ◌≢◌, ◌∙◌, ◌⊎◌, ℕ, ◌*◌, ◌/◌, ◌%◌, ◌^◌, ◌<◌, ◌==◌, List, [], ◌∷◌, arith, bit_and, bit_or, min, refl, sym, ap, inl, inr, Bool, true, false}
use Rattle.std.proofs.lemmas.Bool.Decides.{eqb_tells, nat_tests}
use Rattle.std.specs.Int.{bit_at}
use Rattle.std.proofs.lemmas.Nat.{and_mask, one_shl, or_lt}
use Rattle.std.proofs.lemmas.Nat.Bits.{bit_at-lt, bit_at_and, bit_at_ones}
use Rattle.std.proofs.Math.Pow.{pow-lt}
use Rattle.card_code.specs.AllSets.{passes_all, passes-at}
use Rattle.card_code.specs.CardCode.{has_row, with_row}
use Rattle.card_code.specs.Columns.{column_of, moved, set_of_column, set-again}
use Rattle.card_code.specs.Rows.{is_row_set, passing_place, row_number, rows}
use Rattle.card_code.specs.declared.row.Row.{Row}
use Rattle.card_code.specs.declared.row.Row.TheVariants.{Zero, One, Two, Three, Four, Five, Six, Seven, Eight, Nine, Eleven, Twelve}

-- whether two answers are the same
abbrev is_same : Bool → Bool → Bool
is_same true other = other
is_same false true = false
is_same false false = true

same-is : (one other : Bool) → is_same one other ≡ true → one ≡ other
same-is true other is = cc
same-is false true is = cc
same-is false false is = refl

place_small : (row : Row) → passing_place row < 12
place_small Zero = omega arith
place_small One = omega arith
place_small Two = omega arith
place_small Three = omega arith
place_small Four = omega arith
place_small Five = omega arith
place_small Six = omega arith
place_small Seven = omega arith
place_small Eight = omega arith
place_small Nine = omega arith
place_small Eleven = omega arith
place_small Twelve = omega arith

-- whether a set's column has a row exactly if the set has its place
has_its : Row → ℕ → Bool
has_its row set = is_same (has_row (column_of set) (row_number row)) (has_row set (passing_place row))

all-have : (row : Row) → passes_all 12 (has_its row) ≡ true
unfolding has_its passes_all column_of
all-have Zero = refl
all-have One = refl
all-have Two = refl
all-have Three = refl
all-have Four = refl
all-have Five = refl
all-have Six = refl
all-have Seven = refl
all-have Eight = refl
all-have Nine = refl
all-have Eleven = refl
all-have Twelve = refl

-- the rows that a set has at the places below 12 are those of its last twelve bits
last_twelve : (set : ℕ) (row : Row) → has_row (set % 4096) (passing_place row) ≡ has_row set (passing_place row)
last_twelve set row =
    ap (λ (n : ℕ). has_row n (passing_place row)) (sym (and_mask set 12))
    ∙ ap (λ (n : ℕ). n == 1) (bit_at_and set 4095 (passing_place row)
    ∙ ap (λ (n : ℕ). min (bit_at set (passing_place row)) n) (bit_at_ones 12 (passing_place row) (place_small row)))
    ∙ by (bit_at set (passing_place row)) (bit_at-lt set (passing_place row))
  where
    by : (bit : ℕ) → bit < 2 → (min bit 1 == 1) ≡ (bit == 1)
    by bit small = grind (arith, nat_tests, small)

-- sets with the same rows at the first bits have them at the second
moved-same : (rows : List Row) (one other : ℕ) → ((row : Row) → has_row one (passing_place row) ≡ has_row other (passing_place row))
    → moved rows passing_place row_number one ≡ moved rows passing_place row_number other
moved-same [] one other same = refl
moved-same (row ∷ others) one other same = rw (same row, moved-same others one other same) refl

-- the rows of a column, by its set
pub column-row : (set : ℕ) (row : Row) → has_row (column_of set) (row_number row) ≡ has_row set (passing_place row)
unfolding has_its column_of
column-row set row =
    ap (λ (n : ℕ). has_row n (row_number row)) (sym (moved-same rows (set % 4096) set (last_twelve set)))
    ∙ same-is (has_row (column_of (set % 4096)) (row_number row)) (has_row (set % 4096) (passing_place row))
    (passes-at 12 (has_its row) (set % 4096) (all-have row) (omega arith))
    ∙ last_twelve set row

-- whether a set with a place in it too is that of the column with the row
joins_its : Row → ℕ → Bool
joins_its row set = column_of (bit_or set (2 ^ passing_place row)) == with_row (column_of set) (row_number row)

all-join : (row : Row) → passes_all 12 (joins_its row) ≡ true
unfolding joins_its passes_all column_of
all-join Zero = refl
all-join One = refl
all-join Two = refl
all-join Three = refl
all-join Four = refl
all-join Five = refl
all-join Six = refl
all-join Seven = refl
all-join Eight = refl
all-join Nine = refl
all-join Eleven = refl
all-join Twelve = refl

-- a row more
pub column-with : (set place : ℕ) (row : Row) → set < 4096 → place ≡ passing_place row
    → column_of (bit_or set (1 * 2 ^ place % 65536)) ≡ with_row (column_of set) (row_number row)
unfolding joins_its
column-with set place row small is =
    let joined = passes-at 12 (joins_its row) set (all-join row) small in
    let low = place_small row in
    let same : column_of (bit_or set (2 ^ passing_place row)) ≡ with_row (column_of set) (row_number row) = grind (arith, nat_tests, joined) in
    ap (λ (n : ℕ). column_of (bit_or set (1 * 2 ^ n % 65536))) is
    ∙ ap (λ (n : ℕ). column_of (bit_or set n)) (one_shl (passing_place row) 16 (omega (arith, low))) ∙ same

pub with-small : (set place : ℕ) → set < 4096 → place < 12 → bit_or set (1 * 2 ^ place % 65536) < 4096
with-small set place small low =
    let power : 2 ^ place < 2 ^ 12 = pow-lt low in
    rw (one_shl place 16 (omega (arith, low))) (or_lt 12 set (2 ^ place) small power)

-- a set's column has rows of a card alone
all_lawful : passes_all 12 (λ set. is_row_set (column_of set)) ≡ true
unfolding passes_all column_of
all_lawful = refl

pub column-lawful : (set : ℕ) → set < 4096 → is_row_set (column_of set) ≡ true
column-lawful set small = passes-at 12 (λ set. is_row_set (column_of set)) set all_lawful small

-- whether a column has a row, as it is asked of its set
pub asks-row : (set place : ℕ) (row : Row) → place ≡ passing_place row
    → (bit_and (set / 2 ^ place) 1 == 1) ≡ has_row (column_of set) (row_number row)
asks-row set place row is =
    ap (λ (n : ℕ). bit_and (set / 2 ^ n) 1 == 1) is
    ∙ ap (λ (n : ℕ). n == 1) (and_mask (set / 2 ^ passing_place row) 1) ∙ sym (column-row set row)

-- two columns are one exactly if their sets are
pub same-columns : (one other : ℕ) → one < 4096 → other < 4096 → (one == other) ≡ (column_of one == column_of other)
same-columns one other is_small other_small = by (eqb_tells one other) (eqb_tells (column_of one) (column_of other))
  where
    by : ((one == other) ≡ true) × (one ≡ other) ⊎ ((one == other) ≡ false) × (one ≢ other)
        → ((column_of one == column_of other) ≡ true) × (column_of one ≡ column_of other)
        ⊎ ((column_of one == column_of other) ≡ false) × (column_of one ≢ column_of other)
        → (one == other) ≡ (column_of one == column_of other)
    by (inl same) (inl alike) = same.0 ∙ sym alike.0
    by (inl same) (inr apart) = absurd (apart.1 (ap column_of same.1))
    by (inr unlike) (inl alike) =
        absurd (unlike.1 (sym (set-again one is_small) ∙ ap set_of_column alike.1 ∙ set-again other other_small))
    by (inr unlike) (inr apart) = unlike.0 ∙ sym apart.0
