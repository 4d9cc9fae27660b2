-- How it is told what a chart asks for by a plan and a setup has not: line by line of the chart.
use Rattle.std.specs.Prelude.{◌≡◌, ℕ, ◌+◌, List, [], ◌∷◌, ◌++◌, Some, codes, decimal, slice_get}
use Rattle.chart_lines.specs.declared.charts.chart.Line.{Line}
use Rattle.chart_lines.specs.declared.charts.statement.Statement.{Statement}
use Rattle.chart_lines.specs.declared.charts.statement.Statement.TheVariants as says
use Rattle.match_panels.specs.DifferencesWords.Differences.{IsDifference}
use Rattle.wiring_legend.specs.Rows.{row_of, sentence}
use Rattle.match_panels.specs.DifferencesWords.PanelProgress.Forms.{form_beside}
use Rattle.chart_plans.specs.PlansWords.Plans.{Lists}
use Rattle.hubs.specs.SetupsWords.Tapes.{CarriageTape}
use Rattle.hubs.specs.SetupsWords.Wiring.{Wiring}
use Rattle.wire_chart.specs.Parts.{ArePartsOf}
use Rattle.wire_chart.specs.WrittenText.{ended}
use Rattle.wire_gen.specs.OfLine.{IsSetupOfLine}
use Rattle.wire_chart.specs.Below.wiring_text.declared.statement.Version.{Version}

-- under FORM the form that is asked for, where the setup has another
abbrev pub missing_form : Statement → (wanted its : CarriageTape) → List ℕ
missing_form (says.Form count first overflow) wanted its = form_beside wanted its
missing_form other wanted its = []

-- What a line of the chart asks for and the setup has not: the form, and just these stops, jacks and wires, as a wiring chart spells them.
pub record LacksOnLine (version : Version) (lines : List Line) (plan : Lists) (setup : Wiring) (line : Line) (text : List ℕ)
    : Type 0 where
  pub wanted : Wiring
  pub asked : IsSetupOfLine lines plan line wanted
  pub lacking : Wiring
  pub is_difference : IsDifference wanted setup lacking
  pub parts : List ℕ
  pub are : ArePartsOf version lacking parts
  pub spelled : text ≡ missing_form line.statement wanted.tape setup.tape ++ parts

-- the number of a line of the chart, and the sentence of its row in a legend
abbrev pub line_heading : List Line → Line → List ℕ
line_heading lines line = ended (codes "line " ++ decimal line.number ++ codes ": " ++ sentence (row_of lines line.statement))

-- a text under its heading; where the text is empty, there is no heading either
abbrev pub under_heading : (heading text : List ℕ) → List ℕ
under_heading heading [] = []
under_heading heading (byte ∷ bytes) = heading ++ byte ∷ bytes

-- what is told of a line of the chart: nothing, where the setup lacks nothing of it
pub record IsLacking (version : Version) (lines : List Line) (plan : Lists) (setup : Wiring) (line : Line) (told : List ℕ) : Type 0 where
  pub text : List ℕ
  pub lacks : LacksOnLine version lines plan setup line text
  pub headed : told ≡ under_heading (line_heading lines line) text

-- what is told of the lines before a place of the chart, one after another
pub data AreLacking (version : Version) (lines : List Line) (plan : Lists) (setup : Wiring) : (place : ℕ) → List ℕ → Type 0 where
  none : AreLacking version lines plan setup 0 []
  next : (place : ℕ) (line : Line) (before told : List ℕ)
      → AreLacking version lines plan setup place before → slice_get lines place ≡ Some line
      → IsLacking version lines plan setup line told → AreLacking version lines plan setup (place + 1) (before ++ told)
