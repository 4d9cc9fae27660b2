-- How much each line of a chart asks for by a plan, and how much of that a setup has not.
use Rattle.std.specs.Prelude.{◌≡◌, ℕ, ◌+◌, ◌==◌, List, [], ◌∷◌, ◌++◌, Some, if◌then◌else◌, nat_lt, slice_get}
use Rattle.chart_lines.specs.declared.charts.chart.Line.{Line}
use Rattle.chart_lines.specs.declared.charts.statement.Statement.{Statement}
use Rattle.chart_lines.specs.declared.charts.statement.Statement.TheVariants as says
use Rattle.match_panels.specs.DifferencesWords.Differences.{HasSize, IsDifference}
use Rattle.match_panels.specs.DifferencesWords.PanelProgress.Forms.{forms}
use Rattle.match_panels.specs.declared.differences.panel_progress.counting.LineCount.{LineCount}
use Rattle.match_panels.specs.declared.differences.panel_progress.counting.Standing.{Standing}
use Rattle.match_panels.specs.declared.differences.panel_progress.counting.Standing.TheVariants.{AsksNothing, Begun, Done, NotBegun}
use Rattle.chart_plans.specs.PlansWords.Plans.{Lists}
use Rattle.hubs.specs.SetupsWords.Tapes.{CarriageTape}
use Rattle.hubs.specs.SetupsWords.Wiring.{Wiring}
use Rattle.wire_gen.specs.OfLine.{IsSetupOfLine}

-- how many forms a line asks for: one under FORM
abbrev pub forms_asked : Statement → ℕ
forms_asked (says.Form count first overflow) = 1
forms_asked other = 0

-- how many of them a setup has not, by its tape
abbrev pub forms_missing : Statement → (wanted its : CarriageTape) → ℕ
forms_missing (says.Form count first overflow) wanted its = forms wanted its
forms_missing other wanted its = 0

-- How much a line asks for: wires, jacks and stops, and under FORM the form. How much of that is missing.
pub record IsCountOf (lines : List Line) (plan : Lists) (setup : Wiring) (line : Line) (count : LineCount) : Type 0 where
  pub numbered : count.number ≡ line.number
  pub wanted : Wiring
  pub asks : IsSetupOfLine lines plan line wanted
  pub parts : ℕ
  pub size : HasSize wanted parts
  pub asked : count.asked ≡ parts + forms_asked line.statement
  pub lacking : Wiring
  pub is_difference : IsDifference wanted setup lacking
  pub lacking_parts : ℕ
  pub lacking_size : HasSize lacking lacking_parts
  pub missing : count.missing ≡ lacking_parts + forms_missing line.statement wanted.tape setup.tape

-- the counts of the lines before a place of the chart, in their order
pub data AreCountsBefore (lines : List Line) (plan : Lists) (setup : Wiring) : (place : ℕ) → List LineCount → Type 0 where
  none : AreCountsBefore lines plan setup 0 []
  next : (place : ℕ) (line : Line) (before : List LineCount) (count : LineCount)
      → AreCountsBefore lines plan setup place before → slice_get lines place ≡ Some line
      → IsCountOf lines plan setup line count → AreCountsBefore lines plan setup (place + 1) (before ++ count ∷ [])

-- how a line stands, by its count
abbrev pub standing_of : LineCount → Standing
standing_of count =
    if count.asked == 0 then AsksNothing
    else if count.missing == 0 then Done
    else if nat_lt count.missing count.asked then Begun
    else NotBegun
