-- What the laws rest on, for those who use them: the totals of unsigned amounts, and the texts on total lines.
use Rattle.std.proofs.Common.{◌≡◌, ◌∙◌, refl, sym, ap, ap₂, ℕ, pos, ◌+ℤ◌, ◌+◌, false, List, [], ◌∷◌, Some, None}
use Rattle.std.specs.Int.{is_negative}
use Rattle.std.proofs.Math.IntN.{pos-+ℤ-pos}
use Rattle.wiring_table.specs.Below.chart_lines.declared.charts.statement.Field.{Field}
use Rattle.wiring_table.specs.Below.chart_lines.declared.charts.statement.FieldKind.{FieldKind}
use Rattle.wiring_table.specs.Below.chart_lines.declared.charts.statement.FieldKind.TheVariants as holds
use Rattle.wiring_table.specs.Below.chart_rules.declared.rule.Rule.TheVariants as rule
use Rattle.wiring_table.specs.Below.chart_line_rules.FieldRules.Fields.{fields_of, field_named}
use Rattle.wiring_table.specs.Below.chart_line_rules.FieldRules.Names.{breaks_wrong_kind, names_amount}
use Rattle.wiring_table.proofs.Below.chart_rules.Laws.{kept-line, text-valid}
use Rattle.report_definition.specs.Amounts.{is_negated, number_in, digits_on, signed}
use Rattle.report_definition.specs.Totals.{total_of}
use Rattle.wiring_table.specs.Figures.{rule_of}
use Rattle.report_definition.proofs.ReadBack.{not-negative}
use Rattle.proof_reports.specs.PrintedLines.Laws.{UnsignedTotalsHaveNoSign, TotalTextsAreTexts}

-- an amount without a sign rule is not negated
not-negated : (kind : FieldKind) (card : List ℕ) → rule_of kind ≡ None → is_negated kind card ≡ false
not-negated holds.Text card none = refl
not-negated (holds.Amount decimals None) card none = refl
not-negated (holds.Amount decimals (Some rule)) card none = cc

-- its total is a sum of numbers from 0 on
unsigned-total : (field : Field) (group : List (List ℕ)) → rule_of field.kind ≡ None
    → (number : ℕ) × (total_of field group ≡ pos number)
unsigned-total field [] none = (0, refl)
unsigned-total field (card ∷ cards) none =
    let rest = unsigned-total field cards none in
    let number = number_in (digits_on field card) in (
      number + rest.0,
      ap₂ (λ one other. one +ℤ other) (ap (λ b. signed b number) (not-negated field.kind card none)) rest.1
          ∙ pos-+ℤ-pos number rest.0,
    )

pub unsigned_totals : UnsignedTotalsHaveNoSign
unsigned_totals field group none =
    let total = unsigned-total field group none in ap is_negative total.1 ∙ not-negative total.0

-- the texts of total lines are texts on every valid card
pub total_texts : TotalTextsAreTexts
total_texts chart card line level wheel name field lawful valid there is named =
    let kept : names_amount (field_named chart.lines name) ≡ false
    = sym (ap (breaks_wrong_kind (fields_of chart.lines)) is) ∙ (kept-line chart lawful line there rule.WrongKind).1 in
    text-valid chart card name field valid named (sym (ap names_amount named) ∙ kept)
