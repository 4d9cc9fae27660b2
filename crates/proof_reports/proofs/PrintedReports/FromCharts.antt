-- What the rules of a chart say of its amounts, and what the totals hold before the first card.
use Rattle.std.proofs.Common.{◌≡◌, ◌∙◌, refl, sym, ap, subst, ℕ, zero, suc, ◌-◌, ◌<◌, ◌^◌, true, false, List, [], ◌∷◌, Option, Some, None, map, replicate, slice_index_or, is_some, arith, length, unsigned_abs, ◌+◌, ◌*◌}
use Rattle.proof_reports.specs.Below.chart_line_rules.FieldRules.Coupled.{has_sign}
use Rattle.proof_reports.specs.Below.chart_plans.PlansWords.Plans.{Lists}
use Rattle.proof_reports.proofs.Below.chart_line_rules.FieldRules.Places.{is_same_name-equal}
use Rattle.proof_reports.specs.Below.chart_line_rules.FieldRules.Fields.{field_named}
use Rattle.report_definition.specs.Below.chart_rules.Rules.{IsLawful}
use Rattle.report_definition.specs.Below.chart_lines.ChartsWords.Chart.{Chart}
use Rattle.report_definition.specs.Below.chart_lines.ChartsWords.Field.{sign_column}
use Rattle.report_definition.specs.Below.chart_lines.declared.charts.statement.Field.{Field}
use Rattle.report_definition.specs.Below.chart_lines.declared.charts.statement.FieldKind.{FieldKind}
use Rattle.report_definition.specs.Below.chart_lines.declared.charts.statement.FieldKind.TheVariants as holds
use Rattle.proof_reports.specs.Below.counters.Counters.{Counter, counter_at_start, counter_of}
use Rattle.proof_reports.specs.Below.counters.Numbers.{number}
use Rattle.proof_reports.specs.Below.hubs.declared.hub.Group.{Group}
use Rattle.proof_reports.specs.Below.hubs.SetupsWords.Wiring.{Wiring}
use Rattle.proof_cycles.specs.WholeCycles.Units.{group_at}
use Rattle.proof_reports.specs.Below.chart_plans.declared.plans.counter.TotalCounter.{TotalCounter}
use Rattle.proof_reports.specs.Below.chart_plans.declared.plans.counter.TotalCounter.TheVariants as of
use Rattle.wiring_table.specs.Parts.{panel_group}
use Rattle.proof_reports.proofs.WiredPanels.CycleAsks.AmountFacts.{digits_are, has_from}
use Rattle.proof_reports.specs.WiredPanels.CycleAsks.ChartAmounts.{amount_of, total_counter}
use Rattle.proof_reports.specs.WiredPanels.CycleAsks.CounterStates.{held_in}
use Rattle.proof_reports.specs.Below.machine.Machine.{group_units, machine_at_start}
use Rattle.proof_reports.specs.Below.net.Panel.{unit_of}
use Rattle.report_definition.specs.Amounts.{is_negated}
use Rattle.report_definition.specs.Totals.{GroupFits, total_of}
use Rattle.wiring_table.specs.Figures.{IsAmount}
use Rattle.proof_reports.specs.PrintedReports.Content.{held}

-- an amount without a sign rule is never negated
pub never_negated :
    (chart : Chart) (plan : Lists) (name : List ℕ) (field : Field) → IsAmount chart.lines name field
    → (amount_of chart.lines plan name).is_signed ≡ false → (card : List ℕ) → is_negated field.kind card ≡ false
never_negated chart plan name field amount none card = by field.kind (sym (ap (λ (o : Option Field). has_sign o) amount.named) ∙ none)
  where
    by : (kind : FieldKind) → is_some (sign_column kind) ≡ false → is_negated kind card ≡ false
    by holds.Text is = refl
    by (holds.Amount decimals None) is = refl
    by (holds.Amount decimals (Some rule)) is = cc

-- where a group fits, its totals have no more digits than they may
pub fits :
    (chart : Chart) (plan : Lists) → IsLawful chart → (name : List ℕ) (field : Field) (k : ℕ) (group : List (List ℕ))
    → IsAmount chart.lines name field → (amount_of chart.lines plan name).has (suc k) ≡ true → GroupFits chart.lines (suc k) group
    → unsigned_abs (total_of field group) < 10 ^ (amount_of chart.lines plan name).digits (suc k)
fits chart plan lawful name field k group amount has fit =
    let (n, total) = has_from chart.lines plan name (suc k) has in
    let same = is_same_name-equal total.asked.name name total.same_name in
    let named : field_named chart.lines total.asked.name ≡ Some field = ap (field_named chart.lines) same ∙ amount.named in
    let room = fit total.line total.asked field total.listed total.says_total total.same_level named in
    let digits = digits_are chart plan name (suc k) n lawful total in
    subst (λ d. unsigned_abs (total_of field group) < 10 ^ d) (sym digits) room

-- zeros spell zero
zeros_spell : (count : ℕ) → number (replicate count 0) ≡ 0
zeros_spell zero = refl
zeros_spell (suc count) = let rest = zeros_spell count in omega (arith, rest)

-- groups at the start hold zero
start_number : (units : List ℕ) (place : ℕ) (other : Counter) → number other.digits ≡ 0
    → number (slice_index_or (map counter_at_start units) place other).digits ≡ 0
start_number [] place other none = none
start_number (unit ∷ units) zero other none = zeros_spell _
start_number (unit ∷ units) (suc place) other none = start_number units place other none

start_group : (wiring : Wiring) (group : Group) → number (group_at (machine_at_start wiring) group).digits ≡ 0
start_group wiring group = start_number group_units (unit_of group - 3) (counter_of group) (zeros_spell _)

-- before the first card all totals are zero
pub start_zero : (chart : Chart) (plan : Lists) (wiring : Wiring) (name : List ℕ) (level : ℕ)
    → (held chart plan (machine_at_start wiring) name level).number ≡ 0
start_zero chart plan wiring name level = by (total_counter chart.lines plan name level)
  where
    by : (o : Option TotalCounter) → (held_in (machine_at_start wiring) o).number ≡ 0
    by None = refl
    by (Some (of.Single group)) = start_group wiring (panel_group group)
    by (Some (of.Coupled lower upper)) =
        let power = 10 ^ length (group_at (machine_at_start wiring) (panel_group lower)).digits in
        (λ i. start_group wiring (panel_group upper) i * power + start_group wiring (panel_group lower) i) ∙ nothing power
      where
        nothing : (power : ℕ) → 0 * power + 0 ≡ 0
        nothing power = omega arith
