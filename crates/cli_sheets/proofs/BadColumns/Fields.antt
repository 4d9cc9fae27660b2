-- The column that is told of a card stands in its first field that isn't valid.
use Rattle.std.proofs.Common.{◌≡◌, ◌∙◌, ℕ, zero, suc, ◌+◌, ◌-◌, ◌≤◌, ◌==◌, Bool, true, false, cond, List, [], ◌∷◌, Option, Some, None, slice_get, refl, sym, ap, subst, arith}
use Rattle.std.proofs.lemmas.Bool.Decides.{nat_tests}
use Rattle.cli_sheets.specs.BadColumns.Columns.{bad_among, bad_in, bad_of, has_column, has_digits, kind_slip, one_of, padded, slip_at}
use Rattle.cli_sheets.specs.BadColumns.Laws.{BadColumnsStandInFirstInvalidFields, IsInField}
use Rattle.cli_sheets.specs.declared.bad_columns.column.BadColumn.{BadColumn}
use Rattle.cli_sheets.proofs.BadColumns.Amounts.{begun_at, fine-valid, valid-fine}
use Rattle.cli_sheets.proofs.BadColumns.Rows.{bad-in, begun, fine-none, length-padded, none-fine, rows-padded}
use Rattle.cli_sheets.proofs.BadColumns.Slips.{in-has_column, none-text, slip_at-in, slip_at-out, text-none}
use Rattle.chart_lines.proofs.ChartsWords.Listed.{listed-at}
use Rattle.chart_rules.proofs.Laws.{IsGoodField, good-listed}
use Rattle.card_code.specs.Deck.{IsCardOf}
use Rattle.chart_lines.specs.declared.charts.statement.Field.{Field}
use Rattle.chart_lines.specs.declared.charts.statement.FieldKind.{FieldKind}
use Rattle.chart_lines.specs.declared.charts.statement.FieldKind.TheVariants as holds
use Rattle.chart_line_rules.specs.FieldRules.Fields.{fields_of}
use Rattle.chart_rules.specs.ValidCard.{AreValid, IsValidField, IsValidKind, column_of}

module _ (line card : List ℕ) (is : IsCardOf line card) (field : Field) (good : IsGoodField field) where
  -- nothing is wrong with any column of the field, by what it holds
  abbrev IsFineKind : FieldKind → Type 0
  IsFineKind kind =
      (column : ℕ) → field.first ≤ column → column ≤ field.last
      → kind_slip kind field (has_digits field 1 (padded line)) (begun_at field card column) column (column_of card column) ≡ None

  valid-kind : (kind : FieldKind) → IsFineKind kind → IsValidKind kind field card
  valid-kind holds.Text fine = λ column from to. text-none (column_of card column) (fine column from to)
  valid-kind (holds.Amount decimals rule) fine = valid-fine line card is field good fine

  kind-valid : (kind : FieldKind) → IsValidKind kind field card → IsFineKind kind
  kind-valid holds.Text valid = λ column from to. none-text (column_of card column) (valid column from to)
  kind-valid (holds.Amount decimals rule) valid = fine-valid line card is field good valid

  -- a field without a column at fault is valid
  pub none-valid : bad_in field (padded line) ≡ None → IsValidField field card
  none-valid none =
      valid-kind field.kind
      (λ column from to.
      let on = good.card.from in
      let up_to = good.card.to in
      let e : 1 + (column - 1) ≡ column = omega (arith, on, from) in
      let fine = fine-none field (has_digits field 1 (padded line)) card false 1 (padded line) (rows-padded line card is) none (column - 1)
      (omega (arith, on, from, to, up_to, length-padded line is.short)) in
      sym (slip_at-in field (has_digits field 1 (padded line)) (begun_at field card column) column (column_of card column) from to)
      ∙ subst (λ c. slip_at field (has_digits field 1 (padded line)) (begun_at field card column) c (column_of card c) ≡ None) e fine)

  -- and a valid one has none
  pub valid-none : IsValidField field card → bad_in field (padded line) ≡ None
  valid-none valid =
      none-fine field (has_digits field 1 (padded line)) card false 1 (padded line) (rows-padded line card is)
      (λ count within. by count (has_column field (1 + count)) refl)
    where
      by : (count : ℕ) (has : Bool) → has_column field (1 + count) ≡ has
          → slip_at field (has_digits field 1 (padded line)) (begun field card false 1 count) (1 + count) (column_of card (1 + count)) ≡ None
      by count true has =
          let bounds = in-has_column field (1 + count) has in
          let e : 1 + count - 1 ≡ count = omega arith in
          slip_at-in field (has_digits field 1 (padded line)) (begun field card false 1 count) (1 + count) (column_of card (1 + count)) bounds.0 bounds.1
          ∙ subst
          (λ n. kind_slip field.kind field (has_digits field 1 (padded line)) (begun field card false 1 n) (1 + count) (column_of card (1 + count)) ≡ None) e
          (kind-valid field.kind valid (1 + count) bounds.0 bounds.1)
      by count false out =
          slip_at-out field (has_digits field 1 (padded line)) (begun field card false 1 count) (1 + count) (column_of card (1 + count)) out

-- a number is itself
same : (n : ℕ) → (n == n) ≡ true
same n = grind (arith, nat_tests)

-- the column that is told by the first column of the first field that isn't valid
among : (line card : List ℕ) → IsCardOf line card → (fields : List Field) (place : ℕ) (field : Field)
    → ((at : ℕ) (each : Field) → slice_get fields at ≡ Some each → IsGoodField each)
    → slice_get fields place ≡ Some field → AreValid fields place card → ¬ IsValidField field card
    → (bad : BadColumn) × (bad_among field.first line fields ≡ Some bad) × IsInField field bad
unfolding bad_among
among line card is [] place field good there before invalid = cc
among line card is (first ∷ others) zero field good there before invalid =
    let e : first ≡ field = cc in
    subst
    (λ (its : Field). ¬ IsValidField its card
    → (bad : BadColumn) × (one_of (bad_of its.first line first) (bad_among its.first line others) ≡ Some bad) × IsInField its bad) e
    (λ wrong. by wrong (bad_in first (padded line)) refl) invalid
  where
    by : ¬ IsValidField first card → (found : Option BadColumn) → bad_in first (padded line) ≡ found
        → (bad : BadColumn) × (one_of (bad_of first.first line first) (bad_among first.first line others) ≡ Some bad) × IsInField first bad
    by wrong None none = absurd (wrong (none-valid line card is first (good 0 first refl) none))
    by wrong (Some bad) found = (
      bad,
      ap (λ (t : Bool). one_of (cond t (bad_in first (padded line)) None) (bad_among first.first line others)) (same first.first)
          ∙ ap (λ (f : Option BadColumn). one_of f (bad_among first.first line others)) found,
      bad-in first (has_digits first 1 (padded line)) false 1 (padded line) bad found,
    )
among line card is (first ∷ others) (suc place) field good there before invalid =
    let valid = before 0 (omega arith) first refl in
    let none = valid-none line card is first (good 0 first refl) valid in
    let (bad, found, in_field) = among line card is others place field (λ at each each_there. good (suc at) each each_there) there
    (λ at less each each_there. before (suc at) (omega (arith, less)) each each_there) invalid in
    (bad, ap (λ (f : Option BadColumn). one_of f (bad_among field.first line others)) (skipped (first.first == field.first) none) ∙ found, in_field)
  where
    skipped : (t : Bool) → bad_in first (padded line) ≡ None → cond t (bad_in first (padded line)) None ≡ None
    skipped true none = none
    skipped false none = refl

pub stand_in_first_invalid : BadColumnsStandInFirstInvalidFields
stand_in_first_invalid chart line card fault lawful is refused =
    among line card is (fields_of chart.lines) refused.place refused.field
    (λ place field there. good-listed chart lawful field (listed-at (fields_of chart.lines) place field there))
    refused.is_there refused.valid_before refused.invalid
