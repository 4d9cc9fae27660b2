-- The legend of a chart with its plan: a group for each line that says something. A group is the line itself with its number, the
-- sentence of its row, the form under the FORM line, and the stops, the jacks and the wires that the line asks for, as a wiring chart
-- spells them; an empty line ends it.
use Rattle.std.specs.Prelude.{◌≡◌, ℕ, ◌+◌, List, [], ◌++◌, Some, codes, decimal, length, slice_get}
use Rattle.card_code.specs.Deck.{line_at}
use Rattle.chart_lines.specs.declared.charts.chart.Line.{Line}
use Rattle.chart_lines.specs.declared.charts.statement.Statement.{Statement}
use Rattle.chart_lines.specs.declared.charts.statement.Statement.TheVariants as says
use Rattle.chart_plans.specs.PlansWords.Plans.{Lists}
use Rattle.hubs.specs.SetupsWords.Tapes.{CarriageTape}
use Rattle.hubs.specs.SetupsWords.Wiring.{Wiring}
use Rattle.wire_chart.specs.Parts.{ArePartsOf}
use Rattle.wire_chart.specs.WrittenText.{ended, form_line}
use Rattle.wire_gen.specs.OfLine.{IsSetupOfLine}
use Rattle.wiring_text.specs.declared.statement.Version.{Version}
use Rattle.wiring_legend.specs.Rows.{row_of, sentence}

-- the number and the text of a line of a chart
abbrev pub heading : List ℕ → ℕ → List ℕ
heading source number = codes "line " ++ decimal number ++ codes ": " ++ line_at source number

-- under the FORM line the form of the tape
abbrev pub form_part : Statement → CarriageTape → List ℕ
form_part (says.Form lines first overflow) tape = ended (form_line tape)
form_part other tape = []

-- The group of a line: what is named in it is what this line asks for, and no more.
pub record IsGroup (version : Version) (lines : List Line) (plan : Lists) (source : List ℕ) (line : Line) (group : List ℕ)
    : Type 0 where
  pub setup : Wiring
  pub asked : IsSetupOfLine lines plan line setup
  pub parts : List ℕ
  pub are : ArePartsOf version setup parts
  pub spelled : group
      ≡ ended (heading source line.number) ++ ended (sentence (row_of lines line.statement)) ++ form_part line.statement setup.tape
      ++ parts ++ ended []

-- the groups of the lines before a place of the chart, one after another
pub data AreGroups (version : Version) (lines : List Line) (plan : Lists) (source : List ℕ) : (place : ℕ) → List ℕ → Type 0 where
  none : AreGroups version lines plan source 0 []
  next : (place : ℕ) (line : Line) (before group : List ℕ)
      → AreGroups version lines plan source place before → slice_get lines place ≡ Some line
      → IsGroup version lines plan source line group → AreGroups version lines plan source (place + 1) (before ++ group)

-- The legend: the groups of all lines.
abbrev pub IsLegend : Version → List Line → Lists → List ℕ → List ℕ → Type 0
IsLegend version lines plan source legend = AreGroups version lines plan source (length lines) legend
