-- An amount has a column at fault exactly if it isn't valid.
use Rattle.std.proofs.Common.{◌≡◌, ◌⊎◌, inl, inr, ◌∙◌, ℕ, zero, suc, ◌+◌, ◌-◌, ◌<◌, ◌≤◌, ◌&&◌, ◌||◌, Bool, true, false, List, None, length, max, nat_lt, refl, sym, ap, subst, arith}
use Rattle.std.proofs.lemmas.Bool.{cases_lt}
use Rattle.std.proofs.lemmas.Bool.Decides.{nat_tests}
use Rattle.std.proofs.Math.Nat.{max-eq_left, max-eq_right}
use Rattle.cli_sheets.specs.BadColumns.Columns.{amount_slip, has_column, has_digit, has_digits, is_due, padded}
use Rattle.cli_sheets.proofs.BadColumns.Rows.{AreRowsFrom, IsDigit, begun, begun-false, begun-true, digits-false, digits-true, length-padded, rows-padded}
use Rattle.cli_sheets.proofs.BadColumns.Slips.{IsGood, amount-none, has_digit-in, in-has_column, none-amount}
use Rattle.card_code.specs.Deck.{IsCardOf}
use Rattle.chart_lines.specs.ChartsWords.Field.{columns_of, decimals_of, sign_column}
use Rattle.chart_lines.specs.declared.charts.statement.Field.{Field}
use Rattle.chart_rules.proofs.Laws.{IsGoodField}
use Rattle.chart_rules.specs.ValidCard.{AreBlank, AreDigits, AreSingle, IsValidAmount, column_of, digit_count}

-- how many digits an amount has in a column
abbrev digits_at : (card : List ℕ) → (column : ℕ) → ℕ
digits_at card column = digit_count (column_of card column)

-- whether a digit stands before a column in a field
abbrev pub begun_at : Field → (card : List ℕ) → (column : ℕ) → Bool
begun_at field card column = begun field card false 1 (column - 1)

-- nothing is wrong with any column of an amount, one that has a digit or none
abbrev pub IsFineAmount : Field → (has_some : Bool) → (card : List ℕ) → Type 0
IsFineAmount field has_some card =
    (column : ℕ) → field.first ≤ column → column ≤ field.last
    → amount_slip (sign_column field.kind) (is_due field has_some (begun_at field card column) column) column (column_of card column) ≡ None

-- The first of some columns that has a digit.
record IsFirstDigit (card : List ℕ) (from after start : ℕ) : Type 0 where
  since : from ≤ start
  before : start < after
  blanks : AreBlank from start card
  digit : 0 < digits_at card start

first-digit : (card : List ℕ) (from count : ℕ)
    → AreBlank from (from + count) card ⊎ ((start : ℕ) × IsFirstDigit card from (from + count) start)
first-digit card from zero = inl (λ column since before. absurd (omega (arith, since, before)))
first-digit card from (suc count) = by (cases_lt 0 (digits_at card from)) (first-digit card (from + 1) count)
  where
    behind : digits_at card from ≤ 0 → {column : ℕ} → (from + 1 ≤ column → digits_at card column ≡ 0) → from ≤ column
        → (from < column) ⊎ (column ≤ from) → digits_at card column ≡ 0
    behind none later since (inl more) = later (omega (arith, more))
    behind none {column} later since (inr same) =
        let e : from ≡ column = omega (arith, since, same) in subst (λ c. digits_at card c ≡ 0) e (omega (arith, none))

    by : (0 < digits_at card from) ⊎ (digits_at card from ≤ 0)
        → AreBlank (from + 1) ((from + 1) + count) card ⊎ ((start : ℕ) × IsFirstDigit card (from + 1) ((from + 1) + count) start)
        → AreBlank from (from + suc count) card ⊎ ((start : ℕ) × IsFirstDigit card from (from + suc count) start)
    by (inl here) later =
        inr (
          from,
          record {
            since = omega arith;
            before = omega arith;
            blanks = λ column since before. absurd (omega (arith, since, before));
            digit = here;
          },
        )
    by (inr none) (inl blank) =
        inl
        (λ column since before.
        behind none (λ more. blank column more (omega (arith, before))) since (cases_lt from column))
    by (inr none) (inr (start, first)) =
        inr (
          start,
          record {
            since = let since = first.since in omega (arith, since);
            before = let before = first.before in omega (arith, before);
            blanks = λ column since before. behind none (λ more. first.blanks column more before) since (cases_lt from column);
            digit = first.digit;
          },
        )

-- a digit of an amount stands in a column of the field
digit-somewhere : (field : Field) (card : List ℕ) (count : ℕ) → IsDigit field card 1 count true
    → (field.first ≤ 1 + count) × (1 + count ≤ field.last) × (0 < digits_at card (1 + count))
digit-somewhere field card count digit =
    let has : has_column field (1 + count) ≡ true = by _ _ digit in
    let bounds = in-has_column field (1 + count) has in
    let same = has_digit-in field (1 + count) (column_of card (1 + count)) bounds.0 bounds.1 in
    let some : nat_lt 0 (digits_at card (1 + count)) ≡ true = sym same ∙ digit in
    (bounds.0, bounds.1, grind (arith, nat_tests, some))
  where
    by : (a b : Bool) → (a && b) ≡ true → a ≡ true
    by true b h = refl
    by false b h = h

-- where no digit stands none is told
no-digit : (field : Field) (card : List ℕ) (count : ℕ)
    → (field.first ≤ 1 + count → 1 + count ≤ field.last → digits_at card (1 + count) ≡ 0) → IsDigit field card 1 count false
no-digit field card count none = by (has_digit field (1 + count) (column_of card (1 + count))) refl
  where
    by : (b : Bool) → has_digit field (1 + count) (column_of card (1 + count)) ≡ b → b ≡ false
    by true is =
        let (from, to, some) = digit-somewhere field card count is in let zero = none from to in absurd (omega (arith, some, zero))
    by false is = refl

-- a digit in a column of a field is told
a-digit : (field : Field) (card : List ℕ) (column : ℕ) → 1 ≤ column → field.first ≤ column → column ≤ field.last → 0 < digits_at card column
    → IsDigit field card 1 (column - 1) true
a-digit field card column on from to some =
    let e : column ≡ 1 + (column - 1) = omega (arith, on) in
    subst (λ c. has_digit field c (column_of card c) ≡ true) e
    (has_digit-in field column (column_of card column) from to ∙ grind (arith, nat_tests, some))

-- a good field has room for the digits that it has at least
least-fits : (field : Field) → IsGoodField field → field.first + max (decimals_of field.kind) 1 ≤ field.last + 1
least-fits field good = by (cases_lt (decimals_of field.kind) 1)
  where
    by : (decimals_of field.kind < 1) ⊎ (1 ≤ decimals_of field.kind) → field.first + max (decimals_of field.kind) 1 ≤ field.last + 1
    by (inl few) =
        let one : max (decimals_of field.kind) 1 ≡ 1 = max-eq_right (omega (arith, few)) in omega (arith, one, good.card.order)
    by (inr more) =
        let own : max (decimals_of field.kind) 1 ≡ decimals_of field.kind = max-eq_left more in
        omega (arith, own, good.card.order, good.decimals)

-- a digit has to stand behind another
due-begun : (field : Field) (has_some : Bool) (column : ℕ) (is_begun : Bool) → is_begun ≡ true → is_due field has_some is_begun column ≡ true
due-begun field has_some column is_begun begun_so = ap (λ b. is_due field has_some b column) begun_so

-- and in the last columns of an amount that has one
due-low : (field : Field) (column : ℕ) (is_begun : Bool) → field.last < column + max (decimals_of field.kind) 1
    → is_due field true is_begun column ≡ true
due-low field column is_begun low = by is_begun (nat_lt field.last (column + max (decimals_of field.kind) 1)) (grind (arith, nat_tests, low))
  where
    by : (a b : Bool) → b ≡ true → (a || (true && b)) ≡ true
    by true b h = refl
    by false b h = h

-- it has to stand nowhere else
due-not : (field : Field) (has_some is_begun : Bool) (column : ℕ) → is_begun ≡ false
    → (has_some ≡ true → column + max (decimals_of field.kind) 1 ≤ field.last) → is_due field has_some is_begun column ≡ false
due-not field has_some is_begun column before high =
    by is_begun has_some (nat_lt field.last (column + max (decimals_of field.kind) 1)) before (λ some. let e = high some in grind (arith, nat_tests, e))
  where
    by : (a b c : Bool) → a ≡ false → (b ≡ true → c ≡ false) → (a || (b && c)) ≡ false
    by true b c h k = cc
    by false true c h k = k refl
    by false false c h k = refl

module _ (line card : List ℕ) (is : IsCardOf line card) (field : Field) (good : IsGoodField field) where
  rows : AreRowsFrom card 1 (padded line)
  rows = rows-padded line card is

  has_some : Bool
  has_some = has_digits field 1 (padded line)

  within : (count : ℕ) → 1 + count ≤ field.last → count < length (padded line)
  within count to = omega (arith, to, good.card.to, length-padded line is.short)

  -- nothing is wrong with the columns of a valid amount
  pub fine-valid : IsValidAmount field card → IsFineAmount field (has_digits field 1 (padded line)) card
  fine-valid valid column from to =
      none-amount (sign_column field.kind) (is_due field (has_digits field 1 (padded line)) (begun_at field card column) column) column (column_of card column)
      (by (cases_lt column valid.digits.start))
    where
      start : ℕ
      start = valid.digits.start

      blank_before : column < valid.digits.start → (earlier : ℕ) → earlier < column - 1 → IsDigit field card 1 earlier false
      blank_before before earlier less =
          no-digit field card earlier (λ of_field up_to. valid.digits.blanks (1 + earlier) of_field (omega (arith, before, less)))

      -- an amount with a digit begins early enough
      early : has_digits field 1 (padded line) ≡ true → valid.digits.start + max (decimals_of field.kind) 1 ≤ field.last + 1
      early some = by_end valid.digits.enough (digits-true field card 1 (padded line) rows some)
        where
          by_end : (valid.digits.start ≡ field.last + 1) ⊎ (valid.digits.start + max (decimals_of field.kind) 1 ≤ field.last + 1)
              → (count : ℕ) × (count < length (padded line)) × IsDigit field card 1 count true
              → valid.digits.start + max (decimals_of field.kind) 1 ≤ field.last + 1
          by_end (inr enough) there = enough
          by_end (inl none) (count, less, digit) =
              let (of_field, up_to, one) = digit-somewhere field card count digit in
              let zero = valid.digits.blanks (1 + count) of_field (omega (arith, none, up_to)) in absurd (omega (arith, one, zero))

      by : (column < valid.digits.start) ⊎ (valid.digits.start ≤ column)
          → IsGood (sign_column field.kind) (is_due field (has_digits field 1 (padded line)) (begun_at field card column) column) column (column_of card column)
      by (inl before) =
          let zero = valid.digits.blanks column from before in
          let not_due =
          due-not field (has_digits field 1 (padded line)) (begun_at field card column) column
          (begun-false field card 1 (column - 1) (blank_before before))
          (λ some. let room = early some in omega (arith, room, before)) in
          record { few = omega (arith, zero); zone = valid.zones column from to; there = λ due. cc }
      by (inr behind) =
          let one = valid.digits.digits column behind to in
          record { few = omega (arith, one); zone = valid.zones column from to; there = λ due. one }

  -- and an amount is valid if nothing is wrong with its columns
  pub valid-fine : IsFineAmount field (has_digits field 1 (padded line)) card → IsValidAmount field card
  valid-fine fine =
      record {
        digits = by (has_digits field 1 (padded line)) refl;
        zones = λ column from to. (good_at column from to).zone;
      }
    where
      good_at : (column : ℕ) → field.first ≤ column → column ≤ field.last
          → IsGood (sign_column field.kind) (is_due field (has_digits field 1 (padded line)) (begun_at field card column) column) column (column_of card column)
      good_at column from to = amount-none _ _ column (column_of card column) (fine column from to)

      at_end : field.first + columns_of field ≡ field.last + 1
      at_end = let order = good.card.order in omega (arith, order)

      blank_at : has_digits field 1 (padded line) ≡ false → (column : ℕ) → field.first ≤ column → column ≤ field.last → digits_at card column ≡ 0
      blank_at none column from to =
          let on = good.card.from in
          let e : 1 + (column - 1) ≡ column = omega (arith, on, from) in
          let told = digits-false field card 1 (padded line) rows none (column - 1) (within (column - 1) (omega (arith, e, to))) in
          let zero = sym (has_digit-in field column (column_of card column) from to)
          ∙ subst (λ c. has_digit field c (column_of card c) ≡ false) e told in
          grind (arith, nat_tests, zero)

      not_blank : has_digits field 1 (padded line) ≡ true → AreBlank field.first (field.first + columns_of field) card → ⊥
      not_blank some blank =
          let (count, less, digit) = digits-true field card 1 (padded line) rows some in
          let (from, to, one) = digit-somewhere field card count digit in
          let zero = blank (1 + count) from (omega (arith, to, at_end)) in
          omega (arith, one, zero)

      digits_from : (start : ℕ) → IsFirstDigit card field.first (field.first + columns_of field) start → AreSingle start field.last card
      digits_from start first column behind to = by_place (cases_lt start column)
        where
          of_field : field.first ≤ column
          of_field = let since = first.since in omega (arith, since, behind)

          by_place : (start < column) ⊎ (column ≤ start) → digits_at card column ≡ 1
          by_place (inl later) =
              let on = good.card.from in
              let since = first.since in
              (good_at column of_field to).there
              (due-begun field _ column _
              (begun-true field card false 1 (start - 1) (column - 1) (omega (arith, on, since, later))
              (a-digit field card start (omega (arith, on, since)) since (omega (arith, later, to)) first.digit)))
          by_place (inr same) =
              let e : start ≡ column = omega (arith, same, behind) in
              let few = (good_at column of_field to).few in
              let some = subst (λ c. 0 < digits_at card c) e first.digit in
              omega (arith, few, some)

      enough_from : has_digits field 1 (padded line) ≡ true → (start : ℕ) → IsFirstDigit card field.first (field.first + columns_of field) start
          → start + max (decimals_of field.kind) 1 ≤ field.last + 1
      enough_from is_so start first =
          by_end (cases_lt (field.last + 1) (start + max (decimals_of field.kind) 1)) (cases_lt field.first start)
        where
          by_end : (field.last + 1 < start + max (decimals_of field.kind) 1) ⊎ (start + max (decimals_of field.kind) 1 ≤ field.last + 1)
              → (field.first < start) ⊎ (start ≤ field.first) → start + max (decimals_of field.kind) 1 ≤ field.last + 1
          by_end (inr enough) place = enough
          by_end (inl late) (inr at_first) = let room = least-fits field good in absurd (omega (arith, late, at_first, room))
          by_end (inl late) (inl behind) =
              let before = first.before in
              let zero = first.blanks (start - 1) (omega (arith, behind)) (omega (arith, behind)) in
              let due = ap (λ h. is_due field h (begun_at field card (start - 1)) (start - 1)) is_so
              ∙ due-low field (start - 1) (begun_at field card (start - 1)) (omega (arith, late, behind)) in
              let one = (good_at (start - 1) (omega (arith, behind)) (omega (arith, before, at_end, behind))).there due in
              absurd (omega (arith, one, zero))

      by_first : has_digits field 1 (padded line) ≡ true
          → AreBlank field.first (field.first + columns_of field) card
          ⊎ ((start : ℕ) × IsFirstDigit card field.first (field.first + columns_of field) start)
          → AreDigits field.first field.last (max (decimals_of field.kind) 1) card
      by_first some (inl blank) = absurd (not_blank some blank)
      by_first some (inr (start, first)) =
          record {
            start = start;
            from = first.since;
            to = let before = first.before in omega (arith, before, at_end);
            blanks = first.blanks;
            digits = digits_from start first;
            enough = inr (enough_from some start first);
          }

      by : (some : Bool) → has_digits field 1 (padded line) ≡ some
          → AreDigits field.first field.last (max (decimals_of field.kind) 1) card
      by true some = by_first some (first-digit card field.first (columns_of field))
      by false none =
          record {
            start = field.last + 1;
            from = let order = good.card.order in omega (arith, order);
            to = omega arith;
            blanks = λ column from before. blank_at none column from (omega (arith, before));
            digits = λ column from to. absurd (omega (arith, from, to));
            enough = inl refl;
          }
