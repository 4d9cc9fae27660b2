-- The fields of a lawful chart can be read.
use Rattle.std.proofs.Common.{◌≡◌, ap, refl, ◌≤◌, Contains, arith}
use Rattle.chart_lines.specs.ChartsWords.Chart.{Chart}
use Rattle.chart_lines.specs.ChartsWords.Field.{decimals_of, is_amount, sign_column}
use Rattle.chart_lines.specs.declared.charts.statement.Field.{Field}
use Rattle.chart_lines.specs.declared.charts.statement.FieldKind.{FieldKind}
use Rattle.chart_lines.specs.declared.charts.statement.FieldKind.TheVariants as holds
use Rattle.chart_line_rules.specs.FieldRules.Fields.{fields_of}
use Rattle.chart_rules.specs.Rules.{IsLawful}
use Rattle.chart_rules.proofs.Laws.{IsGoodField, good-listed}
use Rattle.report_misfits.proofs.LawfulTotals.{good_column}
use Rattle.cli_sheets.specs.SheetsWords.Helper.{IsReadable}

-- an amount has few decimals, and a text none
few-decimals : (field : Field) → IsGoodField field → decimals_of field.kind ≤ 8
few-decimals field good = by field.kind refl
  where
    by : (kind : FieldKind) → field.kind ≡ kind → decimals_of field.kind ≤ 8
    by holds.Text is = omega (arith, ap decimals_of is)
    by (holds.Amount decimals rule) is = omega (arith, good.few (ap is_amount is), good.decimals)

pub readable : (chart : Chart) → IsLawful chart → (field : Field) → Contains (fields_of chart.lines) field → IsReadable field
readable chart lawful field there =
    let good = good-listed chart lawful field there in
    record {
      on_card = good.card;
      amount = λ amount. record { on_card = good.card; few = good.few amount; sign = good_column (sign_column field.kind) good.sign };
      decimals = few-decimals field good;
    }
