-- A helper of the code: the totals of an amount by their levels, and their counters.
use Rattle.std.specs.Prelude.{◌≡◌, ℕ, ◌≤◌, List, Option, Some, option_map}
use Rattle.chart_plans.specs.PlansWords.Plans.{Lists}
use Rattle.chart_plans.specs.declared.plans.counter.TotalCounter.{TotalCounter}
use Rattle.chart_lines.specs.ChartsWords.Levels.{level_number}
use Rattle.chart_lines.specs.declared.charts.chart.Line.{Line}
use Rattle.chart_lines.specs.declared.charts.statement.SignRule.{SignRule}
use Rattle.chart_lines.specs.declared.charts.statement.TotalLine.{TotalLine}
use Rattle.hubs.specs.declared.hub.Hub.{Hub}
use Rattle.wiring_lines.specs.LineWires.HelperAdds.{OfSome}
use Rattle.wiring_totals.specs.HelperCounters.{IsCounterOnPanel, positions_of}
use Rattle.wiring_totals.specs.HelperTotalRows.{TransferWires}
use Rattle.wiring_lines.specs.LineWires.HelperRows.{Wires}
use Rattle.wiring_lines.specs.Below.wiring_table.Parts.{IsNextHigher, counter_for, total_line}

-- the number of the first line with a total of the amount of a name, at a level
abbrev pub total_at : List Line → List ℕ → ℕ → Option ℕ
total_at lines name level = option_map (λ line. line.number) (total_line lines name level)

-- the total on a line of the chart has a counter of groups of the panel with so many positions
pub record HasCounterFor (lines : List Line) (plan : Lists) (number positions : ℕ) : Type 0 where
  pub counter : TotalCounter
  pub there : counter_for lines plan number ≡ Some counter
  pub on_panel : IsCounterOnPanel counter
  pub wide : positions ≤ positions_of counter

-- the wires of the next higher total of an amount above a level
pub data OfNext (lines : List Line) (name : List ℕ) (level : ℕ) (of : ℕ → Wires) (exit entry : Hub) : Type 0 where
  next : (number : ℕ) → IsNextHigher lines name level number → of number exit entry → OfNext lines name level of exit entry

-- the wires of the transfer of a total to the next higher one, if there is one
abbrev pub NextWires : List Line → Lists → TotalLine → TotalCounter → Option SignRule → Wires
NextWires lines plan total counter rule =
    OfNext lines total.name (level_number total.level) (λ number.
    OfSome (counter_for lines plan number) (λ higher. TransferWires total counter higher rule))
