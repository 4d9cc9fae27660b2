-- The columns of a field on a card, by the bytes of the card's line.
use Rattle.std.proofs.Common.{◌≡◌, ◌⊎◌, inl, inr, ◌∙◌, ℕ, zero, suc, ◌+◌, ◌-◌, ◌<◌, ◌≤◌, ◌||◌, Bool, true, false, List, [], ◌∷◌, ◌++◌, Option, Some, None, get_or, length, replicate, unwrap_or, refl, sym, ap, subst, arith}
use Rattle.std.proofs.lemmas.Bool.{cases_lt}
use Rattle.std.proofs.lemmas.List.{get_or-append_right, get_or-replicate, get_or_append_left, length-append, length-replicate, take_all}
use Rattle.cli_sheets.specs.BadColumns.Columns.{bad_from, bad_or, has_column, has_digit, has_digits, padded, rows_at, slip_at}
use Rattle.cli_sheets.specs.BadColumns.Laws.{IsInField}
use Rattle.cli_sheets.specs.declared.bad_columns.column.BadColumn.{BadColumn}
use Rattle.cli_sheets.specs.declared.bad_columns.column.ColumnSlip.{ColumnSlip}
use Rattle.cli_sheets.proofs.BadColumns.Slips.{in-has_column, slip_at-out}
use Rattle.card_code.specs.CardCode.{code, rows_of}
use Rattle.card_code.specs.Deck.{IsCardOf}
use Rattle.chart_lines.specs.declared.charts.statement.Field.{Field}
use Rattle.chart_rules.specs.ValidCard.{column_of}

-- the rows of some bytes are those of the columns of a card from one on
abbrev pub AreRowsFrom : (card : List ℕ) → (column : ℕ) → List ℕ → Type 0
AreRowsFrom card column bytes = (k : ℕ) → k < length bytes → rows_at (get_or bytes k 0) ≡ column_of card (column + k)

-- a blank has no rows
blank : rows_at 32 ≡ 0
unfolding rows_of code
blank = refl

-- a line of at most 80 bytes, filled with blanks
pub padded-short : (line : List ℕ) → length line ≤ 80 → padded line ≡ line ++ replicate (80 - length line) 32
padded-short line short = ap (λ (front : List ℕ). front ++ replicate (80 - length front) 32) (take_all 80 line short)

-- it has 80 bytes
pub length-padded : (line : List ℕ) → length line ≤ 80 → length (padded line) ≡ 80
length-padded line short =
    ap (λ (bytes : List ℕ). length bytes) (padded-short line short)
    ∙ length-append line (replicate (80 - length line) 32)
    ∙ ap (λ n. length line + n) (length-replicate (80 - length line) 32)
    ∙ omega (arith, short)

-- these are the rows of its card
pub rows-padded : (line card : List ℕ) → IsCardOf line card → AreRowsFrom card 1 (padded line)
rows-padded line card is k within = by (cases_lt k (length line))
  where
    whole : padded line ≡ line ++ replicate (80 - length line) 32
    whole = padded-short line is.short

    there : 1 + k - 1 ≡ k
    there = omega arith

    few : k < 80
    few = omega (arith, within, length-padded line is.short)

    by : (k < length line) ⊎ (length line ≤ k) → rows_at (get_or (padded line) k 0) ≡ column_of card (1 + k)
    by (inl of_line) =
        ap (λ (bytes : List ℕ). rows_at (get_or bytes k 0)) whole
        ∙ ap rows_at (get_or_append_left line (replicate (80 - length line) 32) 0 k of_line)
        ∙ ap (λ (rows : Option ℕ). unwrap_or rows 0) (is.punched k of_line) ∙ ap (λ n. get_or card n 0) (sym there)
    by (inr behind) =
        ap (λ (bytes : List ℕ). rows_at (get_or bytes k 0)) whole
        ∙ ap rows_at (get_or-append_right line (replicate (80 - length line) 32) (length line) k 0 refl behind
        ∙ get_or-replicate (80 - length line) (k - length line) 32 0 (omega (arith, few, is.short, behind)))
        ∙ blank ∙ sym (is.blank k behind) ∙ ap (λ n. get_or card n 0) (sym there)

-- a column is at fault, or another one behind it
bad_or-none : (field : Field) (column : ℕ) (here : Option ColumnSlip) (later : Option BadColumn) → bad_or field column here later ≡ None
    → (here ≡ None) × (later ≡ None)
bad_or-none field column None later none = (refl, none)
bad_or-none field column (Some why) later none = cc

-- whether a digit stands before the column that has so many columns from one on before it, or did before that one
abbrev pub begun : Field → (card : List ℕ) → Bool → (column count : ℕ) → Bool
begun field card is_begun column zero = is_begun
begun field card is_begun column (suc count) =
    begun field card (is_begun || has_digit field column (column_of card column)) (column + 1) count

-- nothing is wrong with the column that has so many from one on before it
abbrev pub IsFine : Field → (has_some : Bool) → (card : List ℕ) → (is_begun : Bool) → (column count : ℕ) → Type 0
IsFine field has_some card is_begun column count =
    slip_at field has_some (begun field card is_begun column count) (column + count) (column_of card (column + count)) ≡ None

-- the rows of the first byte, and of the others
rows-first : (card : List ℕ) (column byte : ℕ) (bytes : List ℕ) → AreRowsFrom card column (byte ∷ bytes) → rows_at byte ≡ column_of card column
rows-first card column byte bytes rows = let e : column + 0 ≡ column = omega arith in rows 0 (omega arith) ∙ ap (column_of card) e

rows-later : (card : List ℕ) (column byte : ℕ) (bytes : List ℕ) → AreRowsFrom card column (byte ∷ bytes) → AreRowsFrom card (column + 1) bytes
rows-later card column byte bytes rows k within =
    let e : column + suc k ≡ (column + 1) + k = omega arith in rows (suc k) (omega (arith, within)) ∙ ap (column_of card) e

-- if no column is at fault, nothing is wrong with any
pub fine-none : (field : Field) (has_some : Bool) (card : List ℕ) (is_begun : Bool) (column : ℕ) (bytes : List ℕ) → AreRowsFrom card column bytes
    → bad_from field has_some is_begun column bytes ≡ None → (count : ℕ) → count < length bytes → IsFine field has_some card is_begun column count
unfolding bad_from
fine-none field has_some card is_begun column [] rows none count within = absurd (omega (arith, within))
fine-none field has_some card is_begun column (byte ∷ bytes) rows none zero within =
    let e : column ≡ column + 0 = omega arith in
    ap (λ c. slip_at field has_some is_begun c (column_of card c)) (sym e)
    ∙ ap (slip_at field has_some is_begun column) (sym (rows-first card column byte bytes rows))
    ∙ (bad_or-none field column _ _ none).0
fine-none field has_some card is_begun column (byte ∷ bytes) rows none (suc count) within =
    let e : (column + 1) + count ≡ column + suc count = omega arith in
    let its = rows-first card column byte bytes rows in
    let later = fine-none field has_some card (is_begun || has_digit field column (rows_at byte)) (column + 1) bytes (rows-later card column byte bytes rows)
    (bad_or-none field column _ _ none).1 count (omega (arith, within)) in
    let same = subst (λ r. IsFine field has_some card (is_begun || has_digit field column r) (column + 1) count) its later in
    subst (λ c. slip_at field has_some (begun field card (is_begun || has_digit field column (column_of card column)) (column + 1) count) c (column_of card c) ≡ None)
    e same

-- and the other way round
pub none-fine : (field : Field) (has_some : Bool) (card : List ℕ) (is_begun : Bool) (column : ℕ) (bytes : List ℕ) → AreRowsFrom card column bytes
    → ((count : ℕ) → count < length bytes → IsFine field has_some card is_begun column count) → bad_from field has_some is_begun column bytes ≡ None
unfolding bad_from
none-fine field has_some card is_begun column [] rows fine = refl
none-fine field has_some card is_begun column (byte ∷ bytes) rows fine =
    let e : column + 0 ≡ column = omega arith in
    let its = sym (rows-first card column byte bytes rows) in
    let here = subst (λ r. slip_at field has_some is_begun column r ≡ None) its
    (subst (λ c. slip_at field has_some is_begun c (column_of card c) ≡ None) e (fine 0 (omega arith))) in
    let later = none-fine field has_some card (is_begun || has_digit field column (rows_at byte)) (column + 1) bytes (rows-later card column byte bytes rows)
    (λ count within.
    let more : column + suc count ≡ (column + 1) + count = omega arith in
    subst (λ r. IsFine field has_some card (is_begun || has_digit field column r) (column + 1) count) its
    (subst (λ c. slip_at field has_some (begun field card (is_begun || has_digit field column (column_of card column)) (column + 1) count) c (column_of card c) ≡ None)
    more (fine (suc count) (omega (arith, within))))) in
    ap (λ s. bad_or field column s (bad_from field has_some (is_begun || has_digit field column (rows_at byte)) (column + 1) bytes)) here ∙ later

-- a digit stands in the column that has so many from one on before it
abbrev pub IsDigit : Field → (card : List ℕ) → (column count : ℕ) → Bool → Type 0
IsDigit field card column count is = has_digit field (column + count) (column_of card (column + count)) ≡ is

-- a digit before a column was there once it was there
begun-kept : (field : Field) (card : List ℕ) (column count : ℕ) → begun field card true column count ≡ true
begun-kept field card column zero = refl
begun-kept field card column (suc count) = begun-kept field card (column + 1) count

or-true-right : (b : Bool) → (b || true) ≡ true
or-true-right true = refl
or-true-right false = refl

-- a digit that stands before a column
pub begun-true : (field : Field) (card : List ℕ) (is_begun : Bool) (column earlier count : ℕ) → earlier < count
    → IsDigit field card column earlier true → begun field card is_begun column count ≡ true
begun-true field card is_begun column earlier zero before digit = absurd (omega (arith, before))
begun-true field card is_begun column zero (suc count) before digit =
    let e : column + 0 ≡ column = omega arith in
    let here = subst (λ c. has_digit field c (column_of card c) ≡ true) e digit in
    ap (λ d. begun field card (is_begun || d) (column + 1) count) here
    ∙ ap (λ b. begun field card b (column + 1) count) (or-true-right is_begun) ∙ begun-kept field card (column + 1) count
begun-true field card is_begun column (suc earlier) (suc count) before digit =
    let e : column + suc earlier ≡ (column + 1) + earlier = omega arith in
    begun-true field card (is_begun || has_digit field column (column_of card column)) (column + 1) earlier count (omega (arith, before))
    (subst (λ c. has_digit field c (column_of card c) ≡ true) e digit)

-- none that does
pub begun-false : (field : Field) (card : List ℕ) (column count : ℕ) → ((earlier : ℕ) → earlier < count → IsDigit field card column earlier false)
    → begun field card false column count ≡ false
begun-false field card column zero none = refl
begun-false field card column (suc count) none =
    let e : column + 0 ≡ column = omega arith in
    ap (λ d. begun field card d (column + 1) count) (subst (λ c. has_digit field c (column_of card c) ≡ false) e (none 0 (omega arith)))
    ∙ begun-false field card (column + 1) count
    (λ earlier before.
    let more : column + suc earlier ≡ (column + 1) + earlier = omega arith in
    subst (λ c. has_digit field c (column_of card c) ≡ false) more (none (suc earlier) (omega (arith, before))))

-- where a digit stands, if one does
or-cases : (a b : Bool) → (a || b) ≡ true → (a ≡ true) ⊎ (b ≡ true)
or-cases true b is = inl refl
or-cases false b is = inr is

or-false : (a b : Bool) → (a || b) ≡ false → (a ≡ false) × (b ≡ false)
or-false true b is = cc
or-false false b is = (refl, is)

pub digits-true : (field : Field) (card : List ℕ) (column : ℕ) (bytes : List ℕ) → AreRowsFrom card column bytes → has_digits field column bytes ≡ true
    → (count : ℕ) × (count < length bytes) × IsDigit field card column count true
unfolding has_digits
digits-true field card column [] rows is = cc
digits-true field card column (byte ∷ bytes) rows is =
    by (λ there. digits-true field card (column + 1) bytes (rows-later card column byte bytes rows) there)
    (or-cases (has_digit field column (rows_at byte)) (has_digits field (column + 1) bytes) is)
  where
    e : column ≡ column + 0
    e = omega arith

    by : (has_digits field (column + 1) bytes ≡ true → (count : ℕ) × (count < length bytes) × IsDigit field card (column + 1) count true)
        → (has_digit field column (rows_at byte) ≡ true) ⊎ (has_digits field (column + 1) bytes ≡ true)
        → (count : ℕ) × (count < length (byte ∷ bytes)) × IsDigit field card column count true
    by later (inl here) = (
      0,
      omega arith,
      subst (λ c. has_digit field c (column_of card c) ≡ true) e
          (subst (λ r. has_digit field column r ≡ true) (rows-first card column byte bytes rows) here),
    )
    by later (inr there) =
        let (count, within, digit) = later there in
        let more : (column + 1) + count ≡ column + suc count = omega arith in
        (suc count, omega (arith, within), subst (λ c. has_digit field c (column_of card c) ≡ true) more digit)

pub digits-false : (field : Field) (card : List ℕ) (column : ℕ) (bytes : List ℕ) → AreRowsFrom card column bytes → has_digits field column bytes ≡ false
    → (count : ℕ) → count < length bytes → IsDigit field card column count false
unfolding has_digits
digits-false field card column [] rows is count within = absurd (omega (arith, within))
digits-false field card column (byte ∷ bytes) rows is zero within =
    let e : column ≡ column + 0 = omega arith in
    subst (λ c. has_digit field c (column_of card c) ≡ false) e
    (subst (λ r. has_digit field column r ≡ false) (rows-first card column byte bytes rows) (or-false _ _ is).0)
digits-false field card column (byte ∷ bytes) rows is (suc count) within =
    let more : (column + 1) + count ≡ column + suc count = omega arith in
    subst (λ c. has_digit field c (column_of card c) ≡ false) more
    (digits-false field card (column + 1) bytes (rows-later card column byte bytes rows) (or-false _ _ is).1 count (omega (arith, within)))

-- a column that is at fault is one of the field
pub bad-in : (field : Field) (has_some is_begun : Bool) (column : ℕ) (bytes : List ℕ) (bad : BadColumn)
    → bad_from field has_some is_begun column bytes ≡ Some bad → IsInField field bad
unfolding bad_from
bad-in field has_some is_begun column [] bad is = cc
bad-in field has_some is_begun column (byte ∷ bytes) bad is =
    by
    (λ found. bad-in field has_some (is_begun || has_digit field column (rows_at byte)) (column + 1) bytes bad found)
    (slip_at field has_some is_begun column (rows_at byte)) (has_column field column) refl refl is
  where
    by : (bad_from field has_some (is_begun || has_digit field column (rows_at byte)) (column + 1) bytes ≡ Some bad → IsInField field bad)
        → (here : Option ColumnSlip) (has : Bool) → slip_at field has_some is_begun column (rows_at byte) ≡ here → has_column field column ≡ has
        → bad_or field column here (bad_from field has_some (is_begun || has_digit field column (rows_at byte)) (column + 1) bytes) ≡ Some bad
        → IsInField field bad
    by later None has at has_is found = later found
    by later (Some why) false at has_is found = let out = slip_at-out field has_some is_begun column (rows_at byte) has_is in cc
    by later (Some why) true at has_is found =
        let bounds = in-has_column field column has_is in
        let same : record { name = field.name; column = column; slip = why } ≡ bad = cc in
        subst (IsInField field) same (record { named = refl; from = bounds.0; to = bounds.1 })
