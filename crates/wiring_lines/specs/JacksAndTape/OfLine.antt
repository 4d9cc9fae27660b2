-- The jacks and the stops that one line of a chart asks for. A jack that several lines ask for stands under each of them.
use Rattle.std.specs.Prelude.{◌≡◌, ◌↔◌, ◌⊎◌, ℕ, ◌+◌, List, Contains, true}
use Rattle.chart_lines.specs.ChartsWords.Headings.{heading_number}
use Rattle.chart_lines.specs.ChartsWords.Levels.{level_number}
use Rattle.chart_lines.specs.declared.charts.chart.Line.{Line}
use Rattle.chart_lines.specs.declared.charts.statement.Printing.TheVariants as prints
use Rattle.chart_lines.specs.declared.charts.statement.Statement.{Statement}
use Rattle.chart_lines.specs.declared.charts.statement.Statement.TheVariants as says
use Rattle.hubs.specs.declared.jack.Jack.{Jack}
use Rattle.hubs.specs.declared.jack.Jack.TheVariants as jack
use Rattle.wiring_table.specs.Below.report_definition.ChartForm.{form_of}
use Rattle.hubs.specs.SetupsWords.Tapes.{CarriageTape, has_stop}
use Rattle.wiring_lines.specs.JacksAndTape.HelperJacks.{LineJacks, Ranged}

-- The jacks by which cycles print: PRINT DETAIL asks for LIST, a HEAD line for HEAD of the heading lines up to its own, and an item on
-- a total line for TOTAL of its level.
abbrev pub PrintJack : Statement → Jack → Type 0
PrintJack (says.Print prints.Detail) each = each ≡ jack.List
PrintJack (says.Head line wheel literal) each = Ranged jack.Head 1 (heading_number line + 1) each
PrintJack (says.TotalLiteral level wheel literal) each = each ≡ jack.Total (level_number level)
PrintJack (says.TotalText level wheel name) each = each ≡ jack.Total (level_number level)
PrintJack (says.TotalAmount total) each = each ≡ jack.Total (level_number total.level)
PrintJack other each = ⊥

-- A line asks for a jack: one by which cycles print, or one of zero control on the wheels of its amount.
abbrev pub LineJack : List Line → Statement → Jack → Type 0
LineJack lines statement each = PrintJack statement each ⊎ LineJacks lines statement each

-- A line asks for a stop: a TAPE line for those that it lists.
abbrev pub LineStop : Statement → (channel line : ℕ) → Type 0
LineStop (says.Tape its_channel stops) channel line = (channel ≡ its_channel) × Contains stops line
LineStop other channel line = ⊥

-- a tape of the chart's form, with the stops of one line alone
pub record IsTapeOfLine (lines : List Line) (statement : Statement) (tape : CarriageTape) : Type 0 where
  pub form_lines : tape.lines ≡ (form_of lines).lines
  pub first : tape.first ≡ (form_of lines).first
  pub overflow : tape.overflow ≡ (form_of lines).overflow
  pub stops : (channel line : ℕ) → (has_stop tape channel line ≡ true) ↔ LineStop statement channel line

-- some line of the chart asks for the jack
pub record HasLineJack (lines : List Line) (each : Jack) : Type 0 where
  pub line : Line
  pub listed : Contains lines line
  pub asks : LineJack lines line.statement each

-- some line of the chart asks for the stop
pub record HasLineStop (lines : List Line) (channel stop : ℕ) : Type 0 where
  pub line : Line
  pub listed : Contains lines line
  pub asks : LineStop line.statement channel stop
