-- A helper of the code: charts that were checked.
use Rattle.std.specs.Prelude.{◌≡◌, List, length}
use Rattle.chart_lines.specs.ChartsWords.Chart.{Chart}
use Rattle.chart_lines.specs.declared.charts.statement.Field.{Field}
use Rattle.chart_line_rules.specs.FieldRules.Fields.{fields_of}
use Rattle.chart_rules.specs.Controls.{AreControlsOf}
use Rattle.chart_rules.specs.HelperAmounts.{AreAmountsMarked}
use Rattle.chart_rules.specs.HelperTexts.{AreMarked}
use Rattle.chart_rules.specs.Rules.{IsLawful}
use Rattle.chart_rules.specs.declared.amounts.AmountColumns.{AmountColumns}
use Rattle.chart_rules.specs.declared.controls.Controls.{Controls}
use Rattle.chart_rules.specs.declared.texts.TextColumns.{TextColumns}

-- a chart breaks no rule, and these are its fields, its control fields and the columns of its texts and of its amounts
pub record IsChecked (chart : Chart) (fields : List Field) (controls : Controls) (texts : TextColumns) (amounts : AmountColumns) : Type 0 where
  pub fields_are : fields ≡ fields_of chart.lines
  pub lawful : IsLawful chart
  pub controls_are : AreControlsOf chart.lines controls
  pub texts_are : AreMarked fields (length fields) texts.masks texts.end
  pub amounts_are : AreAmountsMarked fields (length fields) amounts
