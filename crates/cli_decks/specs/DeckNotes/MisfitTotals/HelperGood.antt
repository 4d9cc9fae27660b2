-- Helper words of the code: total lines whose totals can be summed up and told.
use Rattle.std.specs.Prelude.{◌≡◌, ◌≤◌, List, Some}
use Rattle.chart_lines.specs.ChartsWords.Field.{decimals_of}
use Rattle.chart_lines.specs.declared.charts.chart.Line.{Line}
use Rattle.chart_lines.specs.declared.charts.statement.Field.{Field}
use Rattle.chart_lines.specs.declared.charts.statement.Statement.{Statement}
use Rattle.chart_lines.specs.declared.charts.statement.Statement.TheVariants as says
use Rattle.chart_lines.specs.declared.charts.statement.TotalLine.{TotalLine}
use Rattle.chart_line_rules.specs.FieldRules.Fields.{field_named}
use Rattle.report_misfits.specs.HelperAmounts.{IsGoodAmount}

-- a total line of an amount in few digits
pub record IsGoodTotal (total : TotalLine) (field : Field) : Type 0 where
  pub amount : IsGoodAmount field
  pub digits : total.digits ≤ 16
  pub decimals : decimals_of field.kind ≤ 8

-- a line is such a one, if it is a total of an amount
abbrev pub IsGoodLine : List Line → Statement → Type 0
IsGoodLine lines statement =
    (total : TotalLine) (field : Field) → statement ≡ says.TotalAmount total → field_named lines total.name ≡ Some field → IsGoodTotal total field
