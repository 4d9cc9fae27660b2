-- The totals of a lawful chart need 16 positions at most.
use Rattle.std.proofs.Common.{◌≡◌, ℕ, get_or, ◌+◌, ◌≤◌, Bool, true, false, cond, List, Option, Some, None, is_some, is_none, refl, arith}
use Rattle.std.proofs.lemmas.List.Elements.{Contains-get_or}
use Rattle.chart_lines.specs.ChartsWords.Chart.{Chart}
use Rattle.chart_lines.specs.declared.charts.chart.Line.{Line}
use Rattle.chart_lines.specs.declared.charts.statement.Field.{Field}
use Rattle.chart_lines.specs.declared.charts.statement.Statement.{Statement}
use Rattle.chart_lines.specs.declared.charts.statement.Statement.TheVariants as says
use Rattle.chart_rules.specs.declared.rule.Rule.TheVariants as rule
use Rattle.chart_line_rules.specs.FieldRules.Fields.{fields_of, field_named}
use Rattle.chart_lines.specs.ChartsWords.Field.{sign_column}
use Rattle.chart_line_rules.specs.FieldRules.Names.{breaks_unknown_name}
use Rattle.chart_line_rules.specs.FieldRules.Digits.{is_out_of_digits, breaks_digits_range}
use Rattle.chart_rules.specs.Rules.{IsLawful}
use Rattle.chart_lines.proofs.ChartsWords.Listed.{given-by}
use Rattle.chart_line_rules.proofs.FieldRules.DigitsKept.{digits-kept}
use Rattle.chart_rules.proofs.Laws.{kept-line}
use Rattle.chart_plans.specs.declared.wanted.total.Total.{Total}
use Rattle.chart_plans.specs.WantedWords.Totals.{NeedsFit}
use Rattle.chart_plans.specs.WantedWords.ChartTotals.{need_of, line_total, totals_of}

-- a total whose digits are in range needs 16 positions at most
need-fits : (field : Option Field) (digits : ℕ) → is_none field ≡ false → is_out_of_digits field digits ≡ false → need_of field digits ≤ 16
need-fits None digits known range = absurd (cc)
need-fits (Some field) digits known range = by (is_some (sign_column field.kind)) (digits-kept field digits range).few (digits-kept field digits range).signed
  where
    by : (signed : Bool) → digits ≤ 16 → (signed ≡ true → digits ≤ 15) → digits + cond signed 1 0 ≤ 16
    by true few with_sign = omega (arith, with_sign refl)
    by false few with_sign = omega (arith, few)

-- the total of a line that keeps these rules
total-fits : (lines : List Line) (number : ℕ) (statement : Statement) (total : Total) → line_total lines number statement ≡ Some total
    → breaks_unknown_name (fields_of lines) statement ≡ false → breaks_digits_range (fields_of lines) statement ≡ false → total.need ≤ 16
total-fits lines number (says.TotalAmount asked) total is known range =
    let need : need_of (field_named lines asked.name) asked.digits ≡ total.need = cc in
    rw (← need) (need-fits (field_named lines asked.name) asked.digits known range)
total-fits lines number other total is known range = absurd (cc)

-- the totals of a lawful chart
pub NeedsFit-lawful : (chart : Chart) → IsLawful chart → NeedsFit (totals_of chart.lines)
NeedsFit-lawful chart lawful k none within =
    let total = get_or (totals_of chart.lines) k none in
    let from = given-by (λ line. line_total chart.lines line.number line.statement) chart.lines total
    (Contains-get_or (totals_of chart.lines) k none within) in
    total-fits chart.lines from.element.number from.element.statement total from.gives
    (kept-line chart lawful from.element from.listed rule.UnknownName).1 (kept-line chart lawful from.element from.listed rule.DigitsRange).1
