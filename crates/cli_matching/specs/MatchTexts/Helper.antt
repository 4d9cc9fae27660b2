-- A helper of the code: what a text gains of what is missing and extra.
use Rattle.std.specs.Prelude.{◌≡◌, ℕ, List, ◌++◌, length}
use Rattle.chart_lines.specs.declared.charts.chart.Line.{Line}
use Rattle.match_panels.specs.DifferencesWords.PanelProgress.Forms.{form_beside}
use Rattle.cli_matching.specs.MatchTexts.Missing.{AreLacking, IsLacking}
use Rattle.chart_plans.specs.PlansWords.Plans.{Lists}
use Rattle.hubs.specs.SetupsWords.Tapes.{CarriageTape}
use Rattle.hubs.specs.SetupsWords.Wiring.{Wiring}
use Rattle.wire_chart.specs.Parts.{ArePartsOf}
use Rattle.wire_chart.specs.Below.wiring_text.declared.statement.Version.{Version}

-- what is told of a line
pub record GainsLacking (version : Version) (lines : List Line) (plan : Lists) (setup : Wiring) (line : Line) (old new : List ℕ)
    : Type 0 where
  pub told : List ℕ
  pub is : IsLacking version lines plan setup line told
  pub gained : new ≡ old ++ told

-- what is told of the lines before a place of the chart, and of all
pub record GainsBefore (version : Version) (lines : List Line) (plan : Lists) (setup : Wiring) (place : ℕ) (old new : List ℕ)
    : Type 0 where
  pub told : List ℕ
  pub are : AreLacking version lines plan setup place told
  pub gained : new ≡ old ++ told

abbrev pub GainsMissing : Version → List Line → Lists → Wiring → (old new : List ℕ) → Type 0
GainsMissing version lines plan setup old new = GainsBefore version lines plan setup (length lines) old new

-- what is told as extra, beside the form that is asked for
pub record GainsSurplus (version : Version) (wanted : CarriageTape) (extra : Wiring) (old new : List ℕ) : Type 0 where
  pub parts : List ℕ
  pub are : ArePartsOf version extra parts
  pub gained : new ≡ old ++ form_beside extra.tape wanted ++ parts

-- the same alone
pub record IsSurplus (version : Version) (wanted : CarriageTape) (extra : Wiring) (text : List ℕ) : Type 0 where
  pub parts : List ℕ
  pub are : ArePartsOf version extra parts
  pub spelled : text ≡ form_beside extra.tape wanted ++ parts
