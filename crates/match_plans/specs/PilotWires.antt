-- The wires that tell the pilot of an amount: the lowest total of the amount, or its mark on the line of a card.
use Rattle.std.specs.Prelude.{◌≡◌, ℕ, true, List, Contains, Some}
use Rattle.chart_lines.specs.ChartsWords.Levels.{level_number}
use Rattle.chart_lines.specs.ChartsWords.Name.{is_same_name}
use Rattle.chart_lines.specs.declared.charts.chart.Line.{Line}
use Rattle.chart_lines.specs.declared.charts.statement.DetailOption.TheVariants as shown
use Rattle.chart_lines.specs.declared.charts.statement.Mark.{Mark}
use Rattle.chart_lines.specs.declared.charts.statement.SignRule.{SignRule}
use Rattle.chart_lines.specs.declared.charts.statement.Statement.TheVariants as says
use Rattle.chart_lines.specs.declared.charts.statement.TotalLine.{TotalLine}
use Rattle.chart_line_rules.specs.FieldRules.Fields.{field_named}
use Rattle.hubs.specs.declared.hub.Hub.TheVariants.{MI}
use Rattle.match_plans.specs.Shown.{units_group}
use Rattle.match_plans.specs.declared.pilots.SignedAmount.{SignedAmount}
use Rattle.chart_plans.specs.PlansWords.Plans.{Lists}
use Rattle.chart_plans.specs.declared.plans.counter.TotalCounter.{TotalCounter}
use Rattle.hubs.specs.SetupsWords.Wiring.{HasWire, Wiring}
use Rattle.wiring_table.specs.Figures.{rule_of}
use Rattle.wiring_table.specs.Parts.{IsLowest, counter_for, negative_side, panel_group}

-- a field has a sign rule, and its name stands for it
pub record IsSignedOf (lines : List Line) (amount : SignedAmount) : Type 0 where
  pub named : field_named lines amount.field.name ≡ Some amount.field
  pub ruled : rule_of amount.field.kind ≡ Some amount.rule

-- a pilot has the counter of the total on a line subtract while the sign column of its amount tells negative
pub record LeadsToTotal (lines : List Line) (plan : Lists) (setup : Wiring) (rule : SignRule) (pilot number : ℕ) : Type 0 where
  pub counter : TotalCounter
  pub served : counter_for lines plan number ≡ Some counter
  pub leads : HasWire setup (negative_side rule pilot 1) (MI (panel_group (units_group counter)))

-- a line tells the pilot of the amount of a name: it has the lowest total of the amount, or its mark
pub data TellsPilot (lines : List Line) (name : List ℕ) (line : Line) : Type 0 where
  lowest :
      (total : TotalLine) → line.statement ≡ says.TotalAmount total → is_same_name total.name name ≡ true
      → IsLowest lines name (level_number total.level) → TellsPilot lines name line
  marked :
      (wheel : ℕ) (its : List ℕ) (mark : Mark) → line.statement ≡ says.DetailField wheel its (shown.Marked mark)
      → is_same_name its name ≡ true → TellsPilot lines name line

-- some line of a chart does
pub record IsTold (lines : List Line) (name : List ℕ) : Type 0 where
  pub line : Line
  pub listed : Contains lines line
  pub tells : TellsPilot lines name line
