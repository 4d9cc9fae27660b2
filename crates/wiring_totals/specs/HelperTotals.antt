-- A helper of the code: all wires of a total, and its ranges.
use Rattle.std.specs.Prelude.{◌≡◌, ℕ, ◌≤◌, List, true}
use Rattle.chart_plans.specs.PlansWords.Plans.{Lists}
use Rattle.chart_plans.specs.declared.plans.counter.TotalCounter.{TotalCounter}
use Rattle.chart_rules.specs.HelperOnCard.{IsOnCard}
use Rattle.chart_lines.specs.ChartsWords.Field.{columns_of, decimals_of, is_amount}
use Rattle.chart_lines.specs.ChartsWords.Levels.{level_number}
use Rattle.chart_lines.specs.declared.charts.chart.Line.{Line}
use Rattle.chart_lines.specs.declared.charts.statement.Field.{Field}
use Rattle.chart_lines.specs.declared.charts.statement.TotalLine.{TotalLine}
use Rattle.wiring_lines.specs.Below.wiring_table.Figures.{rule_of, total_emitter}
use Rattle.wiring_lines.specs.LineWires.HelperAdds.{Both, OfSome, Where}
use Rattle.wiring_totals.specs.HelperCounters.{CarryUpWires}
use Rattle.wiring_totals.specs.HelperLevels.{HasCounterFor, NextWires}
use Rattle.wiring_lines.specs.LineWires.HelperRows.{Wires, PointWires}
use Rattle.wiring_totals.specs.HelperTotalRows.{EntryWires, ReadOutWires, SignedTotal}
use Rattle.wiring_lines.specs.Below.wiring_table.Parts.{IsLowest, IsNextHigher}
use Rattle.wiring_lines.specs.LineWires.HelperItems.{HasFigureWheels}

-- the wires of a total
abbrev pub TotalWires : List Line → Lists → TotalLine → Field → TotalCounter → Wires
TotalWires lines plan total field counter =
    Both (Where (IsLowest lines total.name (level_number total.level)) (EntryWires plan total.name field counter))
    (Both (ReadOutWires total (decimals_of field.kind) counter)
    (Both (PointWires (total_emitter (level_number total.level)) total.wheel total.digits (decimals_of field.kind))
    (Both (OfSome (rule_of field.kind) (λ rule. SignedTotal total (decimals_of field.kind) counter))
    (Both (NextWires lines plan total counter (rule_of field.kind)) (CarryUpWires counter)))))

-- the ranges of a total, its counter, and that of the next higher total, which is one
pub record IsGoodTotal (lines : List Line) (plan : Lists) (number : ℕ) (total : TotalLine) (field : Field) : Type 0 where
  pub card : IsOnCard field
  pub holds_amount : is_amount field.kind ≡ true
  pub wheels : HasFigureWheels total.wheel total.digits (decimals_of field.kind) total.mark
  pub enough : columns_of field ≤ total.digits
  pub counter : HasCounterFor lines plan number total.digits
  pub higher : (other : ℕ) → IsNextHigher lines total.name (level_number total.level) other → HasCounterFor lines plan other total.digits
  pub alone : (one other : ℕ) → IsNextHigher lines total.name (level_number total.level) one
      → IsNextHigher lines total.name (level_number total.level) other → one ≡ other
