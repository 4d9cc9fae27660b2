-- A setup that is wired for a chart by a plan of it, and the counters of a plan line by line.
use Rattle.std.specs.Prelude.{◌≡◌, ℕ, List, Option, Some, None}
use Rattle.chart_lines.specs.ChartsWords.Field.{decimals_of}
use Rattle.chart_lines.specs.declared.charts.chart.Line.{Line}
use Rattle.chart_lines.specs.declared.charts.statement.Field.{Field}
use Rattle.chart_lines.specs.declared.charts.statement.Statement.TheVariants as says
use Rattle.chart_lines.specs.declared.charts.statement.TotalLine.{TotalLine}
use Rattle.chart_plans.specs.PlansWords.Plans.{Lists, ServesChart}
use Rattle.chart_plans.specs.declared.plans.counter.TotalCounter.{TotalCounter}
use Rattle.hubs.specs.SetupsWords.Wiring.{Wiring}
use Rattle.chart_plans.specs.WantedWords.ChartTotals.{line_total}
use Rattle.chart_plans.specs.declared.wanted.total.Total.{Total}
use Rattle.wiring_table.specs.Figures.{IsAmount, digit_wheel}
use Rattle.wiring_table.specs.Parts.{counter_for}
use Rattle.wiring_table.specs.WiredFor.{WiredFor}

-- a setup is wired for a chart by a plan of it
pub record IsWiredBy (lines : List Line) (setup : Wiring) (plan : Lists) : Type 0 where
  pub planned : ServesChart lines plan
  pub wired : WiredFor lines plan setup

-- a line of a chart is a total of an amount
pub record TotalOn (lines : List Line) (line : Line) : Type 0 where
  pub asked : TotalLine
  pub field : Field
  pub says_total : line.statement ≡ says.TotalAmount asked
  pub amount : IsAmount lines asked.name field

-- the wheel of its units
abbrev pub units_wheel : (lines : List Line) (line : Line) → TotalOn lines line → ℕ
units_wheel lines line total = digit_wheel total.asked.wheel total.asked.digits (decimals_of total.field.kind) 1

-- the counter of the total on a line with a number, if it is one
abbrev pub served_by : List Line → Lists → ℕ → Option Total → Option TotalCounter
served_by lines plan number None = None
served_by lines plan number (Some total) = counter_for lines plan number

abbrev pub served_on : List Line → Lists → Line → Option TotalCounter
served_on lines plan line = served_by lines plan line.number (line_total lines line.number line.statement)
