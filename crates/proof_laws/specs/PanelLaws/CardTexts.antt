-- The texts that a chart puts on the line of a card, and those that are read there off a panel that is wired for the chart.
use Rattle.std.specs.Prelude.{◌≡◌, ℕ, ◌+◌, ◌<◌, List, Contains}
use Rattle.chart_rules.specs.Rules.{IsLawful}
use Rattle.chart_lines.specs.ChartsWords.Chart.{Chart}
use Rattle.chart_lines.specs.ChartsWords.Field.{columns_of}
use Rattle.chart_lines.specs.declared.charts.chart.Line.{Line}
use Rattle.chart_lines.specs.declared.charts.statement.DetailOption.TheVariants as shown
use Rattle.chart_lines.specs.declared.charts.statement.Field.{Field}
use Rattle.chart_lines.specs.declared.charts.statement.Statement.TheVariants as says
use Rattle.hubs.specs.declared.jack.Jack.TheVariants as jack
use Rattle.match_plans.specs.Wired.{IsWiredBy}
use Rattle.readback_panels.specs.Shown.{ShowsColumn, ShowsColumns}
use Rattle.readback_panels.specs.declared.draft.Draft.{Draft}
use Rattle.chart_plans.specs.PlansWords.Plans.{Lists}
use Rattle.hubs.specs.SetupsWords.Wiring.{HasJack, Wiring}
use Rattle.wiring_table.specs.Figures.{IsText}

-- a line of a chart puts a text on the line of a card, on each card, and so a column on a wheel
pub record PutsColumn (lines : List Line) (wheel column : ℕ) : Type 0 where
  pub line : Line
  pub listed : Contains lines line
  pub first : ℕ
  pub name : List ℕ
  pub says_text : line.statement ≡ says.DetailField first name shown.Plain
  pub field : Field
  pub is_text : IsText lines name field
  pub place : ℕ
  pub within : place < columns_of field
  pub wheel_is : first + place ≡ wheel
  pub column_is : field.first + place ≡ column

-- Each column of such a text is read, off each panel that is wired for the chart: on its wheel a text of the draft shows it.
abbrev pub ReadsCardTexts : Type 0
ReadsCardTexts =
    (chart : Chart) (plan : Lists) (setup : Wiring) (draft : Draft) → IsLawful chart → IsWiredBy chart.lines setup plan
    → (HasJack setup jack.List → ShowsColumns setup draft) → (wheel column : ℕ) → PutsColumn chart.lines wheel column
    → ShowsColumn draft wheel column
