-- A helper of the code: what stands under a line of a chart, and a legend that gains a group.
use Rattle.std.specs.Prelude.{◌≡◌, ℕ, List, [], ◌++◌}
use Rattle.chart_lines.specs.declared.charts.chart.Line.{Line}
use Rattle.chart_lines.specs.declared.charts.statement.Statement.{Statement}
use Rattle.chart_plans.specs.PlansWords.Plans.{Lists}
use Rattle.hubs.specs.SetupsWords.Wiring.{Wiring}
use Rattle.wire_chart.specs.Parts.{ArePartsOf}
use Rattle.wire_chart.specs.WrittenText.{ended}
use Rattle.wiring_text.specs.declared.statement.Version.{Version}
use Rattle.wiring_legend.specs.Legend.{IsGroup, form_part}
use Rattle.wiring_legend.specs.Rows.{row_of, sentence}

-- the sentence of a line's row, the form under FORM, and the parts of a setup
pub record IsUnder (version : Version) (lines : List Line) (statement : Statement) (setup : Wiring) (text : List ℕ) : Type 0 where
  pub parts : List ℕ
  pub are : ArePartsOf version setup parts
  pub spelled : text ≡ ended (sentence (row_of lines statement)) ++ form_part statement setup.tape ++ parts ++ ended []

-- a text gains the group of a line
pub record GainsGroup (version : Version) (lines : List Line) (plan : Lists) (source : List ℕ) (line : Line) (old new : List ℕ)
    : Type 0 where
  pub group : List ℕ
  pub is_group : IsGroup version lines plan source line group
  pub gained : new ≡ old ++ group
