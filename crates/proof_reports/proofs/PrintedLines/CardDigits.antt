-- The digits of an amount on a valid card: blank columns, and then digits, as many as always print.
use Rattle.std.proofs.Common.{◌≡◌, ◌∙◌, ◌⊎◌, inl, inr, refl, sym, ap, subst, ℕ, zero, suc, ◌+◌, ◌-◌, ◌<◌, ◌≤◌, ◌||◌, not, nat_lt, ap₂, cond, max, Bool, true, false, List, [], ◌∷◌, length, map, drop, find, Option, Some, None, is_some, arith}
use Rattle.std.specs.List.{count_by, list_any, range_with_len}
use Rattle.std.proofs.lemmas.Bool.Decides.{nat_tests}
use Rattle.std.proofs.lemmas.List.Sums.{sum_by-cons}
use Rattle.std.proofs.lemmas.List.FromFn.{length-map-range_with_len}
use Rattle.std.proofs.Math.Bool.{or-true}
use Rattle.print_unit.specs.Below.card_code.CardCode.{has_row}
use Rattle.wiring_table.proofs.Below.chart_lines.ChartsWords.Listed.{found-listed, listed-within}
use Rattle.wiring_table.specs.Below.chart_lines.ChartsWords.Field.{columns_of, decimals_of}
use Rattle.wiring_table.specs.Below.chart_lines.declared.charts.statement.Field.{Field}
use Rattle.wiring_table.specs.Below.chart_rules.ValidCard.{column_of, digit_count, digit_rows, IsValidAmount}
use Rattle.report_definition.specs.Amounts.{digit_in, digits_on, is_blank_on}
use Rattle.report_definition.specs.Edits.{free_digits}
use Rattle.wiring_table.proofs.Below.chart_rules.Laws.{IsGoodField}
use Rattle.proof_reports.proofs.PrintedLines.Numbers.{AreDigits, IsNumeral, AreBlank}

-- where no element passes none is found
none-found : (test : ℕ → Bool) (xs : List ℕ) → count_by test xs ≡ 0 → find test xs ≡ None
none-found test [] none = refl
none-found test (x ∷ xs) none =
    by (test x) (sym (sum_by-cons (λ y. cond (test y) 1 0) x xs) ∙ none) (none-found test xs)
  where
    by : (b : Bool) → cond b 1 0 + count_by test xs ≡ 0 → (count_by test xs ≡ 0 → find test xs ≡ None)
        → cond b (Some x) (find test xs) ≡ None
    by true none rest = absurd (omega (arith, none))
    by false none rest = rest (omega (arith, none))

-- where one passes one is found
one-found : (test : ℕ → Bool) (xs : List ℕ) → 1 ≤ count_by test xs → (x : ℕ) × (find test xs ≡ Some x)
one-found test [] some = absurd (omega (arith, some))
one-found test (x ∷ xs) some =
    by (test x) (subst (λ n. 1 ≤ n) (sum_by-cons (λ y. cond (test y) 1 0) x xs) some) (one-found test xs)
  where
    by : (b : Bool) → 1 ≤ cond b 1 0 + count_by test xs
        → (1 ≤ count_by test xs → (y : ℕ) × (find test xs ≡ Some y)) → (y : ℕ) × (cond b (Some x) (find test xs) ≡ Some y)
    by true some rest = (x, refl)
    by false some rest = rest (omega (arith, some))

-- the digits of a column, counted by their numbers
count-digits : (set : ℕ) → digit_count set ≡ count_by (λ digit. has_row set digit) (range_with_len 0 10)
unfolding digit_count digit_rows
count-digits set = refl

-- a column with no digit, and one with one
digit-none : (set : ℕ) → digit_count set ≡ 0 → digit_in set ≡ None
digit-none set none = none-found (λ digit. has_row set digit) (range_with_len 0 10) (sym (count-digits set) ∙ none)

digit-one : (set : ℕ) → digit_count set ≡ 1 → (digit : ℕ) × (digit < 10) × (digit_in set ≡ Some digit)
digit-one set one =
    let some = one-found (λ digit. has_row set digit) (range_with_len 0 10)
    (let is = sym (count-digits set) ∙ one in omega (arith, is)) in
    (some.0, listed-within 0 10 some.0 (found-listed (λ digit. has_row set digit) (range_with_len 0 10) some.0 some.1).0, some.1)

-- digits in each of some columns
AreDigits-columns : (card : List ℕ) (from count : ℕ)
    → ((column : ℕ) → from ≤ column → column < from + count → digit_count (column_of card column) ≡ 1)
    → AreDigits (map (λ column. digit_in (column_of card column)) (range_with_len from count))
AreDigits-columns card from zero each = tt
AreDigits-columns card from (suc count) each =
    let one = digit-one (column_of card from) (each from (omega arith) (omega arith)) in
    subst (λ o. AreDigits (o ∷ map (λ column. digit_in (column_of card column)) (range_with_len (from + 1) count))) (sym one.2)
    (one.1, AreDigits-columns card (from + 1) count (λ column low high. each column (omega (arith, low)) (omega (arith, high))))

-- blanks in each of some columns
AreBlank-columns : (card : List ℕ) (from count : ℕ)
    → ((column : ℕ) → from ≤ column → column < from + count → digit_count (column_of card column) ≡ 0)
    → AreBlank (map (λ column. digit_in (column_of card column)) (range_with_len from count))
AreBlank-columns card from zero each = tt
AreBlank-columns card from (suc count) each =
    subst (λ o. AreBlank (o ∷ map (λ column. digit_in (column_of card column)) (range_with_len (from + 1) count)))
    (sym (digit-none (column_of card from) (each from (omega arith) (omega arith))))
    (AreBlank-columns card (from + 1) count (λ column low high. each column (omega (arith, low)) (omega (arith, high))))

-- blanks up to a column, and digits from it on
IsNumeral-columns : (card : List ℕ) (start from count : ℕ)
    → ((column : ℕ) → from ≤ column → column < from + count → column < start → digit_count (column_of card column) ≡ 0)
    → ((column : ℕ) → from ≤ column → column < from + count → start ≤ column → digit_count (column_of card column) ≡ 1)
    → IsNumeral (map (λ column. digit_in (column_of card column)) (range_with_len from count))
IsNumeral-columns card start from zero blank single = tt
IsNumeral-columns card start from (suc count) blank single =
    by (nat_lt from start) refl
    (IsNumeral-columns card start (from + 1) count
    (λ column low high before. blank column (omega (arith, low)) (omega (arith, high)) before)
    (λ column low high after. single column (omega (arith, low)) (omega (arith, high)) after))
  where
    rest : List (Option ℕ)
    rest = map (λ column. digit_in (column_of card column)) (range_with_len (from + 1) count)

    by : (b : Bool) → nat_lt from start ≡ b → IsNumeral rest → IsNumeral (digit_in (column_of card from) ∷ rest)
    by true before numeral =
        let below : from < start = grind (arith, nat_tests, before) in
        subst (λ o. IsNumeral (o ∷ rest))
        (sym (digit-none (column_of card from) (blank from (omega arith) (omega arith) below))) numeral
    by false after numeral =
        let above : start ≤ from = grind (arith, nat_tests, after) in
        let one = digit-one (column_of card from) (single from (omega arith) (omega arith) above) in
        subst (λ o. IsNumeral (o ∷ rest)) (sym one.2) (
          one.1,
          AreDigits-columns card (from + 1) count
              (λ column low high. single column (omega (arith, low)) (omega (arith, high)) (omega (arith, above, low))),
        )

-- the columns after the first ones
drop-columns : {X : Type 0} (f : ℕ → X) (from count skipped : ℕ)
    → drop skipped (map f (range_with_len from count)) ≡ map f (range_with_len (from + skipped) (count - skipped))
drop-columns f from count zero =
    let first : from + 0 ≡ from = omega arith in
    let all : count - 0 ≡ count = omega arith in
    sym (ap₂ (λ a n. map f (range_with_len a n)) first all)
drop-columns f from zero (suc skipped) =
    let none : 0 - suc skipped ≡ 0 = omega arith in
    sym (ap (λ n. map f (range_with_len (from + suc skipped) n)) none)
drop-columns f from (suc count) (suc skipped) =
    let first : from + 1 + skipped ≡ from + suc skipped = omega arith in
    let left : count - skipped ≡ suc count - suc skipped = omega arith in
    drop-columns f (from + 1) count skipped ∙ ap₂ (λ a n. map f (range_with_len a n)) first left

-- blank columns have no digit
no-digit : (columns : List (Option ℕ)) → AreBlank columns → list_any is_some columns ≡ false
no-digit [] are = refl
no-digit (None ∷ columns) are = no-digit columns are
no-digit (Some digit ∷ columns) are = absurd are

-- columns have a digit where there are digits after the first ones
some-digit : (count : ℕ) (columns : List (Option ℕ)) → AreDigits (drop count columns) → count < length columns
    → list_any is_some columns ≡ true
some-digit count [] are some = absurd (omega (arith, some))
some-digit zero (None ∷ columns) are some = absurd are
some-digit zero (Some digit ∷ columns) are some = refl
some-digit (suc count) (column ∷ columns) are some =
    ap (λ b. is_some column || b) (some-digit count columns are (omega (arith, some))) ∙ or-true (is_some column)

-- An amount on a card is blank, or it is a numeral whose last columns, those that always print, are digits.
pub data OnCard (field : Field) (card : List ℕ) : Type 0 where
  blank : AreBlank (digits_on field card) → is_blank_on field card ≡ true → OnCard field card
  numeral :
      IsNumeral (digits_on field card)
      → AreDigits (drop (free_digits (length (digits_on field card)) (decimals_of field.kind)) (digits_on field card))
      → is_blank_on field card ≡ false → OnCard field card

-- an amount has as many digits as columns
pub digits-length : (field : Field) (card : List ℕ) → length (digits_on field card) ≡ columns_of field
digits-length field card =
    length-map-range_with_len (λ column. digit_in (column_of card column)) field.first (columns_of field)

-- so it is on a valid card
pub OnCard-valid : (field : Field) (card : List ℕ) → IsGoodField field → IsValidAmount field card → OnCard field card
OnCard-valid field card good valid = by valid.digits.enough
  where
    count : ℕ
    count = columns_of field

    ends : field.first + count ≡ field.last + 1
    ends = let order = good.card.order in omega (arith, order)

    by : (valid.digits.start ≡ field.last + 1) ⊎ (valid.digits.start + max (decimals_of field.kind) 1 ≤ field.last + 1)
        → OnCard field card
    by (inl none) =
        let are = AreBlank-columns card field.first count
        (λ column low high. valid.digits.blanks column low (omega (arith, high, none, ends))) in
        blank are (ap not (no-digit (digits_on field card) are))
    by (inr enough) =
        numeral
        (IsNumeral-columns card valid.digits.start field.first count
        (λ column low high before. valid.digits.blanks column low before)
        (λ column low high after. valid.digits.digits column after (omega (arith, high, ends))))
        low (ap not (some-digit free (digits_on field card) low (omega (arith, order, long, ends))))
      where
        order : field.first ≤ field.last
        order = good.card.order

        long : length (digits_on field card) ≡ count
        long = digits-length field card

        free : ℕ
        free = free_digits (length (digits_on field card)) (decimals_of field.kind)

        from : field.first ≤ valid.digits.start
        from = valid.digits.from

        low : AreDigits (drop free (digits_on field card))
        low =
            subst AreDigits (sym (drop-columns (λ column. digit_in (column_of card column)) field.first count free))
            (AreDigits-columns card (field.first + free) (count - free)
            (λ column low high.
            valid.digits.digits column (omega (arith, low, long, from, enough, ends)) (omega (arith, high, long, from, enough, ends))))
