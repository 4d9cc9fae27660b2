-- What is told of a setup beside a chart.
use Rattle.std.specs.Prelude.{◌≡◌, ℕ, List, ◌++◌, codes, length}
use Rattle.chart_lines.specs.declared.charts.chart.Line.{Line}
use Rattle.match_panels.specs.DifferencesWords.PanelProgress.Forms.{form_beside}
use Rattle.cli_matching.specs.MatchTexts.Missing.{AreLacking, under_heading}
use Rattle.cli_matching.specs.MatchTexts.PlanText.{plan_text}
use Rattle.match_panels.specs.declared.matching.answer.Matching.{Matching}
use Rattle.match_panels.specs.declared.matching.answer.Matching.TheVariants.{Differs, Matched}
use Rattle.chart_plans.specs.PlansWords.Plans.{Lists}
use Rattle.hubs.specs.SetupsWords.Wiring.{Wiring}
use Rattle.wire_chart.specs.Parts.{ArePartsOf}
use Rattle.wire_chart.specs.Below.wiring_text.declared.statement.Version.{Version}

-- The plan; then what is missing, under the lines of the chart that ask for it; then what is extra: the form of the setup, where it is
-- another, and the stops, jacks and wires, as a wiring chart spells them. A heading stands only where something stands under it.
pub record TellsDifference (version : Version) (lines : List Line) (setup : Wiring) (plan : Lists) (missing extra : Wiring)
    (text : List ℕ) : Type 0 where
  pub lacking : List ℕ
  pub are_lacking : AreLacking version lines plan setup (length lines) lacking
  pub surplus : List ℕ
  pub are_surplus : ArePartsOf version extra surplus
  pub spelled : text
      ≡ plan_text lines plan ++ under_heading (codes "missing\n") lacking
      ++ under_heading (codes "extra\n") (form_beside extra.tape missing.tape ++ surplus)

-- Where the setup is wired for the chart: ok, and the plan.
abbrev pub IsMatchText : Version → List Line → Wiring → Matching → List ℕ → Type 0
IsMatchText version lines setup (Matched plan) text = text ≡ codes "ok\n" ++ plan_text lines plan
IsMatchText version lines setup (Differs plan missing extra) text = TellsDifference version lines setup plan missing extra text
