-- The amounts of a lawful chart with a plan are lawful amounts, and each valid card has no more digits of one than its totals.
use Rattle.std.proofs.Common.{◌≡◌, ◌∙◌, refl, ap, ℕ, ◌^◌, ◌≤◌, true, List, Some, None, is_some, arith}
use Rattle.std.proofs.Math.Nat.{pow-le-pow_right}
use Rattle.proof_reports.specs.Below.chart_plans.WantedWords.ChartTotals.{need_of}
use Rattle.proof_reports.specs.Below.chart_line_rules.FieldRules.Coupled.{has_sign}
use Rattle.proof_reports.specs.Below.chart_plans.PlansWords.Plans.{Lists, ServesChart}
use Rattle.proof_reports.specs.Below.chart_line_rules.FieldRules.Fields.{field_named}
use Rattle.proof_reports.specs.Below.chart_rules.Rules.{IsLawful}
use Rattle.proof_reports.specs.Below.chart_lines.ChartsWords.Chart.{Chart, NumbersRise}
use Rattle.proof_reports.specs.Below.chart_lines.ChartsWords.Field.{columns_of, sign_column}
use Rattle.proof_reports.specs.Below.chart_lines.declared.charts.statement.Field.{Field}
use Rattle.proof_reports.specs.Below.chart_lines.declared.charts.statement.FieldKind.{FieldKind}
use Rattle.proof_reports.specs.Below.chart_lines.declared.charts.statement.FieldKind.TheVariants as holds
use Rattle.report_definition.specs.Amounts.{digits_on, is_negated, number_in}
use Rattle.proof_cycles.specs.TotalsWords.Amounts.{IsOnCard, HasGroups}
use Rattle.wiring_table.specs.Figures.{IsAmount}
use Rattle.proof_reports.proofs.WiredPanels.CycleAsks.AmountFacts.{counter_at, digits_are, has_from}
use Rattle.proof_reports.proofs.WiredPanels.CycleAsks.CounterAsksCards.{number_small}
use Rattle.proof_reports.specs.WiredPanels.CycleAsks.ChartAmounts.{amount_of, positions_of}
use Rattle.proof_reports.specs.Below.chart_plans.PlansWords.Counters.{IsEnoughFor}
use Rattle.proof_reports.specs.Below.chart_plans.declared.plans.counter.TotalCounter.{TotalCounter}
use Rattle.proof_reports.specs.Below.chart_plans.declared.plans.counter.TotalCounter.TheVariants as of
use Rattle.wiring_table.proofs.Groups.{counter-enough, counter-given}
use Rattle.wiring_table.proofs.Totals.{digits-grow, total-digits}

-- a counter that is enough for a total has room for its digits and its sign
enough_room : (need : ℕ) (counter : TotalCounter) → IsEnoughFor need counter → need ≤ positions_of (Some counter)
enough_room need (of.Single group) enough = enough
enough_room need (of.Coupled lower upper) enough =
    let most = enough.to in
    let low = enough.lower_width in
    let up = enough.upper_width in
    omega (arith, most, low, up)

-- The amounts of a lawful chart with a plan are lawful.
pub lawful_amount : (chart : Chart) (plan : Lists) (name : List ℕ) → IsLawful chart → NumbersRise chart.lines chart.end
    → ServesChart chart.lines plan → HasGroups (amount_of chart.lines plan name)
lawful_amount chart plan name lawful rise planned = record {
  room = λ level from has.
      let (number, total) = has_from chart.lines plan name level has in
      let (counter, there) = counter-given chart.lines plan name level number planned total in
      let need : ℕ = need_of (field_named chart.lines name) total.asked.digits in
      let room : need ≤ positions_of (Some counter) =
      enough_room need counter (counter-enough chart.lines plan planned chart.end name level number counter rise total there) in
      let digits = digits_are chart plan name level number lawful total in
      let width : (amount_of chart.lines plan name).width level ≡ positions_of (Some counter) =
      ap positions_of (counter_at chart plan name level number lawful total ∙ there) in
      omega (arith, room, digits, width);
  growing = λ low high from less has_low has_high.
      let (n, a) = has_from chart.lines plan name low has_low in
      let (m, b) = has_from chart.lines plan name high has_high in
      let low_digits = digits_are chart plan name low n lawful a in
      let high_digits = digits_are chart plan name high m lawful b in
      omega (arith, digits-grow chart name lawful low high n m less a b, low_digits, high_digits);
}

-- An amount of a card has no more digits than each of its totals, and is negated only if it has a sign.
pub amount_on_card : (chart : Chart) (plan : Lists) (name : List ℕ) (field : Field) (card : List ℕ) → IsLawful chart
    → IsAmount chart.lines name field
    → IsOnCard (amount_of chart.lines plan name) (is_negated field.kind card) (number_in (digits_on field card))
amount_on_card chart plan name field card lawful amount = record {
  small = λ level from has.
      let (number, total) = has_from chart.lines plan name level has in
      let fit = (total-digits chart name lawful level number field total amount.named).enough in
      let digits = digits_are chart plan name level number lawful total in
      let most : 10 ^ columns_of field ≤ 10 ^ (amount_of chart.lines plan name).digits level =
      pow-le-pow_right {n = 10} (omega arith) (omega (arith, fit, digits)) in
      omega (arith, most, number_small field card);
  negated = λ is. ap has_sign amount.named ∙ by field.kind is;
}
  where
    by : (kind : FieldKind) → is_negated kind card ≡ true → is_some (sign_column kind) ≡ true
    by holds.Text is = cc
    by (holds.Amount decimals None) is = cc
    by (holds.Amount decimals (Some rule)) is = refl
