-- The figure that is told of a printed total.
use Rattle.std.specs.Prelude.{◌≡◌, ◌≢◌, ℕ, ◌+◌, ◌-◌, ◌<◌, ◌≤◌, true, List, ◌++◌, Some, All, replicate, slice_index_or}
use Rattle.chart_rules.specs.ValidCard.{IsValidCard}
use Rattle.chart_lines.specs.ChartsWords.Chart.{Chart, NumbersRise}
use Rattle.chart_lines.specs.ChartsWords.Field.{decimals_of}
use Rattle.chart_lines.specs.ChartsWords.Literals.{HaveLiteralTexts}
use Rattle.chart_lines.specs.declared.charts.chart.Line.{Line}
use Rattle.chart_lines.specs.declared.charts.statement.Field.{Field}
use Rattle.chart_lines.specs.declared.charts.statement.TotalLine.{TotalLine}
use Rattle.explain_ledgers.specs.LedgersWords.Running.{PlacesLine}
use Rattle.explain_ledgers.specs.declared.ledgers.account.Account.{Account}
use Rattle.explain_ledgers.specs.declared.ledgers.found.FoundCycle.{FoundCycle}
use Rattle.chart_line_rules.specs.PrintRules.Items.{figure_width}
use Rattle.chart_line_rules.specs.declared.print_rules.items.Figure.{Figure}
use Rattle.net.specs.Cycles.{level_number}
use Rattle.net.specs.declared.cycle.Cycle.TheVariants.{Prog}
use Rattle.net.specs.declared.cycle.Ordinal.TheVariants.{Third}
use Rattle.net.specs.declared.cycle.ProgramLevel.{ProgramLevel}
use Rattle.chart_plans.specs.PlansWords.Plans.{Lists}
use Rattle.chart_plans.specs.declared.plans.counter.TotalCounter.{TotalCounter}
use Rattle.report_definition.specs.Edits.{edited}
use Rattle.report_definition.specs.Totals.{Fits, total_of}
use Rattle.hubs.specs.SetupsWords.Wiring.{Wiring}
use Rattle.explain_wheel_ledgers.specs.Figures.{figure_on}
use Rattle.explain_wheel_ledgers.specs.ToldLedgers.{account_told}
use Rattle.explain_wheel_ledgers.specs.Totals.{account_of, find_total, has_place, totals_in}
use Rattle.proof_reports.specs.WiredPanels.Groups.{IsCounterOf}
use Rattle.proof_reports.specs.WiredPanels.Panel.{IsPanel}
use Rattle.wiring_table.specs.Figures.{IsAmount}
use Rattle.proof_laws.specs.LedgerAmounts.Amounts.{StandsBehind}

-- A text is a figure between blanks.
pub record IsBetweenBlanks (text figure : List ℕ) : Type 0 where
  pub before : ℕ
  pub behind : ℕ
  pub whole : text ≡ replicate before 32 ++ (figure ++ replicate behind 32)
  pub no_blank : All (λ character. character ≢ 32) figure

-- the digits, the decimals and the mark of a total
abbrev pub figure_of : TotalLine → Field → Figure
figure_of asked field = record { digits = asked.digits; decimals = decimals_of field.kind; mark = asked.mark }

-- a wheel is one of those of a total
abbrev pub IsOnTotal : TotalLine → Field → (wheel : ℕ) → Type 0
IsOnTotal asked field wheel = (asked.wheel ≤ wheel) × (wheel < asked.wheel + figure_width (figure_of asked field))

-- A figure is the total of the group of a level that ends with the last of so many cards: the edited amount of the report, without the blanks
-- around it.
pub record IsTotalFigure (lines : List Line) (deck : List (List ℕ)) (asked : TotalLine) (field : Field) (level count : ℕ)
    (figure : List ℕ) : Type 0 where
  pub group : List (List ℕ)
  pub before : ℕ
  pub stands : StandsBehind lines deck level count before group
  pub is : IsBetweenBlanks (edited (total_of field group) asked.digits (decimals_of field.kind) asked.mark) figure

-- For every chart that breaks no rule, whose line numbers rise and whose literals can be printed, every setup that is wired for it by a plan
-- of it, every deck of valid cards whose totals fit, each total of the chart, each cycle of the run that prints it, each counter group of the
-- total and each of its wheels that isn't blank: the figure that is told is the total of the report.
abbrev pub FiguresAreTotals : Type 0
FiguresAreTotals =
    (chart : Chart) (plan : Lists) (wiring : Wiring) (deck : List (List ℕ)) (name : List ℕ) (field : Field) (level : ProgramLevel)
    (counter : TotalCounter) (account : Account) (place wheel : ℕ) (found : FoundCycle)
    → IsPanel chart plan wiring → NumbersRise chart.lines chart.end → HaveLiteralTexts chart.lines
    → All (IsValidCard chart) deck → Fits chart.lines deck
    → IsAmount chart.lines name field → (own : IsCounterOf chart.lines plan name (level_number level) counter)
    → account_of counter ≡ Some account → has_place account place ≡ true
    → PlacesLine wiring deck found → found.cycle ≡ Prog level Third
    → IsOnTotal own.total.asked field wheel → slice_index_or found.line.text (wheel - 1) 32 ≢ 32
    → IsTotalFigure chart.lines deck own.total.asked field (level_number level) found.card
    (figure_on wiring (account_told (find_total (totals_in chart.lines plan chart.lines) place) place) found.line.text wheel)
