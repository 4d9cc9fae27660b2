-- The amounts of a chart: at which levels an amount has a total, in how many digits, and in which counter.
use Rattle.std.specs.Prelude.{ℕ, ◌+◌, List, Option, Some, None, is_some, option_and_then}
use Rattle.proof_reports.specs.Below.chart_line_rules.FieldRules.Coupled.{has_sign}
use Rattle.proof_reports.specs.Below.chart_plans.PlansWords.Plans.{Lists}
use Rattle.proof_reports.specs.Below.chart_plans.declared.plans.counter.TotalCounter.{TotalCounter}
use Rattle.proof_reports.specs.Below.chart_plans.declared.plans.counter.TotalCounter.TheVariants as of
use Rattle.proof_reports.specs.Below.chart_line_rules.FieldRules.Digits.{digits_of}
use Rattle.proof_reports.specs.Below.chart_line_rules.FieldRules.Fields.{field_named}
use Rattle.proof_reports.specs.Below.chart_lines.declared.charts.chart.Line.{Line}
use Rattle.proof_cycles.specs.TotalsWords.Amounts.{Amount}
use Rattle.wiring_table.specs.Parts.{counter_for, total_line}

-- the digits of the total on a line, if there is one
abbrev pub total_digits : Option Line → ℕ
total_digits (Some line) = digits_of line.statement
total_digits None = 0

-- the counter of the total of the amount of a name at a level
abbrev pub total_counter : List Line → Lists → List ℕ → ℕ → Option TotalCounter
total_counter lines plan name level =
    option_and_then (λ (line : Line). counter_for lines plan line.number) (total_line lines name level)

-- the positions of a counter, if there is one: those of its groups
abbrev pub positions_of : Option TotalCounter → ℕ
positions_of (Some (of.Single group)) = group.width
positions_of (Some (of.Coupled lower upper)) = upper.width + lower.width
positions_of None = 0

-- An amount of a chart, by its name: it is signed by its sign rule, has its totals in the digits of their lines, and their
-- counters by the plan.
abbrev pub amount_of : List Line → Lists → List ℕ → Amount
amount_of lines plan name = record {
  is_signed = has_sign (field_named lines name);
  has = λ level. is_some (total_line lines name level);
  digits = λ level. total_digits (total_line lines name level);
  width = λ level. positions_of (total_counter lines plan name level);
}
