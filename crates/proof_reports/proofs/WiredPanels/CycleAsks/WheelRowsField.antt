-- What a field of a card sends to its wheels.
use Rattle.std.proofs.Common.{◌≡◌, ◌≢◌, ◌∙◌, refl, sym, ap, ℕ, ◌+◌, ◌-◌, ◌≤◌, ◌==◌, ◌&&◌, ◌||◌, not, Bool, true, false, cond, List, Option, Some, None, length, map, slice_get, get_or, option_map, arith}
use Rattle.std.proofs.lemmas.Bool.Decides.{nat_tests}
use Rattle.std.proofs.lemmas.List.FromFn.{get_or-map-range_with_len, length-map-range_with_len}
use Rattle.proof_reports.specs.Below.card_code.CardCode.{has_row}
use Rattle.proof_reports.specs.Below.card_code.Rows.{row_number}
use Rattle.proof_reports.specs.Below.card_code.declared.row.Row.TheVariants as row
use Rattle.proof_reports.specs.Below.card_code.declared.row.Row.{Row as CardRow}
use Rattle.proof_reports.specs.Below.chart_line_rules.FieldRules.Fields.{field_named}
use Rattle.proof_reports.specs.Below.chart_line_rules.PrintRules.Items.{mark_shown}
use Rattle.proof_reports.specs.Below.chart_line_rules.FieldRules.Names.{names_amount, names_text}
use Rattle.proof_reports.specs.Below.chart_rules.Rules.{IsLawful, breaks}
use Rattle.proof_reports.specs.Below.chart_rules.ValidCard.{IsValidAmount, column_of, is_sign}
use Rattle.proof_reports.specs.Below.chart_rules.declared.rule.Rule.TheVariants as rule
use Rattle.proof_reports.specs.Below.chart_lines.ChartsWords.Chart.{Chart}
use Rattle.proof_reports.specs.Below.chart_lines.ChartsWords.Field.{columns_of, decimals_of, is_amount, sign_column}
use Rattle.proof_reports.specs.Below.chart_lines.declared.charts.chart.Line.{Line}
use Rattle.proof_reports.specs.Below.chart_lines.declared.charts.statement.DetailOption.TheVariants as shown
use Rattle.proof_reports.specs.Below.chart_lines.declared.charts.statement.DetailOption.{DetailOption}
use Rattle.proof_reports.specs.Below.chart_lines.declared.charts.statement.Field.{Field}
use Rattle.proof_reports.specs.Below.chart_lines.declared.charts.statement.FieldKind.TheVariants as holds
use Rattle.proof_reports.specs.Below.chart_lines.declared.charts.statement.FieldKind.{FieldKind}
use Rattle.proof_reports.specs.Below.chart_lines.declared.charts.statement.Mark.{Mark}
use Rattle.proof_reports.specs.Below.chart_lines.declared.charts.statement.Statement.TheVariants as says
use Rattle.proof_reports.specs.PrintedLines.Shown.Shown.{Characters}
use Rattle.proof_reports.specs.PrintedLines.Shown.{Shown, card_sends, field_sends}
use Rattle.report_definition.specs.Amounts.{columns_in, digits_on, digit_in, is_negated}
use Rattle.report_definition.specs.BodyLines.{is_shown}
use Rattle.proof_reports.specs.Below.selectors.Splits.{is_digit_row}
use Rattle.wiring_table.specs.Figures.{IsAmount}
use Rattle.proof_reports.proofs.Below.chart_rules.Laws.{IsGoodField}
use Rattle.proof_reports.proofs.WiredPanels.SpeakersLawful.{kept-at}
use Rattle.proof_reports.proofs.WiredPanels.CycleAsks.WheelRowsFigure.{amount_shown}

pub left-of : (a b : Bool) → (a && b) ≡ true → a ≡ true
left-of true b on = refl
left-of false b on = cc

pub right-of : (a b : Bool) → (a && b) ≡ true → b ≡ true
right-of true b on = on
right-of false b on = cc

pub both-of : (a b : Bool) → a ≡ true → b ≡ true → (a && b) ≡ true
both-of true b on other = other
both-of false b on other = cc

-- what a field on the line of a card sends, where it is shown
pub field-sent : (lines : List Line) (opens : ℕ) (card : List ℕ) (wheel : ℕ) (name : List ℕ) (how : DetailOption) (field : Field)
    → is_shown how opens ≡ true → field_named lines name ≡ Some field
    → card_sends lines opens card (says.DetailField wheel name how) ≡ Some (field_sends card wheel (mark_shown how) field field.kind)
field-sent lines opens card wheel name how field on named =
    ap (λ b. cond b (option_map (λ each. field_sends card wheel (mark_shown how) each each.kind) (field_named lines name)) None) on
    ∙ ap (option_map (λ each. field_sends card wheel (mark_shown how) each each.kind)) named

pub record SendsField (lines : List Line) (opens : ℕ) (card : List ℕ) (wheel : ℕ) (name : List ℕ) (how : DetailOption) (sent : Shown) : Type 0 where
  pub field : Field
  pub on : is_shown how opens ≡ true
  pub named : field_named lines name ≡ Some field
  pub is : sent ≡ field_sends card wheel (mark_shown how) field field.kind

pub field-tested : (lines : List Line) (opens : ℕ) (card : List ℕ) (wheel : ℕ) (name : List ℕ) (how : DetailOption) (sent : Shown)
    → card_sends lines opens card (says.DetailField wheel name how) ≡ Some sent → SendsField lines opens card wheel name how sent
field-tested lines opens card wheel name how sent is = by (is_shown how opens) (field_named lines name) refl refl is
  where
    by : (b : Bool) (o : Option Field) → is_shown how opens ≡ b → field_named lines name ≡ o
        → cond b (option_map (λ each. field_sends card wheel (mark_shown how) each each.kind) o) None ≡ Some sent
        → SendsField lines opens card wheel name how sent
    by true (Some field) on named same = record { field = field; on = on; named = named; is = cc }
    by true None on named same = cc
    by false o on named same = cc

-- a text sends its columns, and an amount its digits and its mark
pub text-sends : (card : List ℕ) (wheel : ℕ) (mark : Option Mark) (field : Field) (kind : FieldKind) → is_amount kind ≡ false
    → field_sends card wheel mark field kind ≡ Characters wheel (map (column_of card) (columns_in field))
text-sends card wheel mark field holds.Text text = refl
text-sends card wheel mark field (holds.Amount decimals rule) text = cc

pub amount-sends : (card : List ℕ) (wheel : ℕ) (mark : Option Mark) (field : Field) (kind : FieldKind) → is_amount kind ≡ true
    → field_sends card wheel mark field kind
    ≡ amount_shown wheel (columns_of field) (decimals_of kind) mark (digits_on field card) (is_negated field.kind card)
amount-sends card wheel mark field holds.Text amount = cc
amount-sends card wheel mark field (holds.Amount decimals rule) amount = refl

pub length-digits_on : (field : Field) (card : List ℕ) → length (digits_on field card) ≡ columns_of field
length-digits_on field card = length-map-range_with_len (λ column. digit_in (column_of card column)) field.first (columns_of field)

pub digit-on : (field : Field) (card : List ℕ) (position : ℕ) → IsGoodField field → 1 ≤ position → position ≤ columns_of field
    → get_or (digits_on field card) (columns_of field - position) None ≡ digit_in (column_of card (field.last + 1 - position))
digit-on field card position good low high =
    get_or-map-range_with_len (λ column. digit_in (column_of card column)) field.first (columns_of field) (columns_of field - position)
    (field.last + 1 - position) None (omega (arith, low, high)) (omega (arith, low, high, good.card.order))

-- a row of a column with a good zone that is not the sign column is a digit's
digit-rows : (set : ℕ) (row : CardRow) → has_row set 11 ≡ false → has_row set 12 ≡ false → has_row set (row_number row) ≡ true → is_digit_row row ≡ true
digit-rows set row.Eleven eleven twelve on = cc
digit-rows set row.Twelve eleven twelve on = cc
digit-rows set other eleven twelve on = refl

pub digit-zone : (field : Field) (card : List ℕ) (column : ℕ) (row : CardRow) → IsValidAmount field card → field.first ≤ column → column ≤ field.last
    → sign_column field.kind ≢ Some column → has_row (column_of card column) (row_number row) ≡ true → is_digit_row row ≡ true
digit-zone field card column row valid from to apart on =
    zone (has_row (column_of card column) 12) (has_row (column_of card column) 11) (is_sign (sign_column field.kind) column) refl refl
    (not_sign (sign_column field.kind) apart) (valid.zones column from to)
  where
    not_sign : (o : Option ℕ) → o ≢ Some column → is_sign o column ≡ false
    not_sign None other = refl
    not_sign (Some sign) other = by (sign == column) refl
      where
        by : (b : Bool) → (sign == column) ≡ b → b ≡ false
        by true same = let e : sign ≡ column = grind (arith, nat_tests, same) in absurd (other (ap Some e))
        by false same = refl

    zone : (a b c : Bool) → has_row (column_of card column) 12 ≡ a → has_row (column_of card column) 11 ≡ b → c ≡ false
        → (not a && (not b || c)) ≡ true → is_digit_row row ≡ true
    zone false false c twelve eleven none good = digit-rows (column_of card column) row eleven twelve on
    zone true b c twelve eleven none good = cc
    zone false true true twelve eleven none good = cc
    zone false true false twelve eleven none good = cc

-- An amount is not indicated, a text has no mark.
pub amount-shown : (chart : Chart) (place : ℕ) (line : Line) (wheel : ℕ) (name : List ℕ) (how : DetailOption) (field : Field) (opens : ℕ)
    → IsLawful chart → slice_get chart.lines place ≡ Some line → line.statement ≡ says.DetailField wheel name how → IsAmount chart.lines name field
    → is_shown how opens ≡ true
amount-shown chart place line wheel name shown.Plain field opens lawful at says_it is = refl
amount-shown chart place line wheel name (shown.Marked mark) field opens lawful at says_it is = refl
amount-shown chart place line wheel name (shown.Indicated level) field opens lawful at says_it is =
    let kept = kept-at rule.WrongKind chart place line lawful at in
    let e : names_amount (field_named chart.lines name) ≡ false = sym (ap (λ s. breaks rule.WrongKind chart.lines chart.lines s) says_it) ∙ kept in
    let f : is_amount field.kind ≡ false = sym (ap names_amount is.named) ∙ e in
    absurd (by f is.holds_amount)
  where
    by : is_amount field.kind ≡ false → is_amount field.kind ≡ true → ⊥
    by p q = cc

pub text-unmarked : (chart : Chart) (place : ℕ) (line : Line) (wheel : ℕ) (name : List ℕ) (mark : Mark) (field : Field)
    → IsLawful chart → slice_get chart.lines place ≡ Some line → line.statement ≡ says.DetailField wheel name (shown.Marked mark)
    → field_named chart.lines name ≡ Some field → is_amount field.kind ≡ false → ⊥
text-unmarked chart place line wheel name mark field lawful at says_it named text =
    let kept = kept-at rule.WrongKind chart place line lawful at in
    let e : names_text (field_named chart.lines name) ≡ false = sym (ap (λ s. breaks rule.WrongKind chart.lines chart.lines s) says_it) ∙ kept in
    let f : not (is_amount field.kind) ≡ false = sym (ap names_text named) ∙ e in
    let g : not false ≡ false = sym (ap not text) ∙ f in
    cc
