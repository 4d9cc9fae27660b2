-- The total lines of a lawful chart can be summed up and told.
use Rattle.std.proofs.Common.{◌≡◌, refl, ap, ◌≤◌, Contains, arith}
use Rattle.chart_lines.proofs.ChartsWords.Listed.{listed-place}
use Rattle.chart_lines.specs.ChartsWords.Chart.{Chart}
use Rattle.chart_lines.specs.ChartsWords.Field.{decimals_of, is_amount}
use Rattle.chart_lines.specs.declared.charts.chart.Line.{Line}
use Rattle.chart_lines.specs.declared.charts.statement.Field.{Field}
use Rattle.chart_lines.specs.declared.charts.statement.FieldKind.{FieldKind}
use Rattle.chart_lines.specs.declared.charts.statement.FieldKind.TheVariants as holds
use Rattle.chart_rules.proofs.Laws.{IsGoodField, good-field}
use Rattle.chart_rules.specs.Rules.{IsLawful}
use Rattle.cli_decks.specs.DeckNotes.MisfitTotals.HelperGood.{IsGoodLine}
use Rattle.report_misfits.proofs.LawfulTotals.{good_total}

-- an amount has few decimals, and a text none
few_decimals : (field : Field) → IsGoodField field → decimals_of field.kind ≤ 8
few_decimals field good = by field.kind refl
  where
    by : (kind : FieldKind) → field.kind ≡ kind → decimals_of field.kind ≤ 8
    by holds.Text is = omega (arith, ap decimals_of is)
    by (holds.Amount decimals rule) is = omega (arith, good.few (ap is_amount is), good.decimals)

pub good_line : (chart : Chart) (line : Line) → IsLawful chart → Contains chart.lines line → IsGoodLine chart.lines line.statement
good_line chart line lawful there total field is named =
    let place = listed-place line chart.lines there in
    let good = good_total chart place.earlier line place.later total field lawful place.parts is named in
    record {
      amount = good.0;
      digits = omega (arith, good.1.few);
      decimals = few_decimals field (good-field chart lawful total.name field named);
    }
