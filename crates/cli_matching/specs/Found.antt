-- What is found of a compiled chart and a panel, and the text that tells it.
use Rattle.std.specs.Prelude.{◌≡◌, ℕ, List, ◌++◌, Option, Some, None, codes}
use Rattle.std.specs.Io.KnownBytes.{Appends}
use Rattle.compile407.specs.Compilation.{Compilation}
use Rattle.cli_matching.specs.Panels.{ArePanels}
use Rattle.cli_matching.specs.MatchTexts.Counts.{CountsDifferences}
use Rattle.cli_matching.specs.MatchTexts.PlanText.{plan_text}
use Rattle.cli_matching.specs.MatchTexts.Progress.{IsToldText}
use Rattle.cli_matching.specs.declared.match_texts.counts.Counts.{Counts}
use Rattle.cli_matching.specs.declared.match_texts.telling.Telling.{Telling}
use Rattle.match_panels.specs.MatchingWords.Answers.{DiffersBy}
use Rattle.match_panels.specs.declared.matching.answer.Matching.TheVariants.{Differs}
use Rattle.match_plans.specs.NamingWires.{ShowsPartsOf}
use Rattle.match_plans.specs.Wired.{IsWiredBy}
use Rattle.chart_plans.specs.PlansWords.Plans.{Lists}
use Rattle.report_runs.specs.PrintPromises.Promises.{BeginsReport, PrintsReport}
use Rattle.hubs.specs.SetupsWords.Wiring.{Wiring}
use Rattle.wire_chart.specs.Below.wiring_text.declared.statement.Version.{Version}

-- The panel is wired for the chart by the plan that is told. So the machine prints the chart's report of every deck that can be run, wired
-- as this panel, and it begins the report where not all totals fit.
pub record IsWiredText (compiled : Compilation) (setup : Wiring) (text : List ℕ) : Type 0 where
  pub plan : Lists
  pub wired : IsWiredBy compiled.chart.lines setup plan
  pub prints : PrintsReport compiled.chart setup
  pub begins : BeginsReport compiled.chart setup
  pub spelled : text ≡ codes "ok\n" ++ plan_text compiled.chart.lines plan

-- The panel is wired for the chart by no plan. By the plan that is told these are what is missing and what is extra, and so much is
-- counted of both. If the panel shows the parts of another one that is wired for the chart, that one is wired for it by this plan. What is
-- missing and extra is spelled in the version of the wiring chart, so that its lines can be put into the text and taken out of it. How far
-- the panel is is told behind; or a hint is told in place of all.
pub record IsUnwiredText (telling : Telling) (wiring : List ℕ) (counts : Counts) (version : Version) (compiled : Compilation) (setup : Wiring)
    (text : List ℕ) : Type 0 where
  pub unwired : (plan : Lists) → ¬ IsWiredBy compiled.chart.lines setup plan
  pub plan : Lists
  pub missing : Wiring
  pub extra : Wiring
  pub differs : DiffersBy compiled.chart.lines setup plan missing extra
  pub shown : (other : Wiring) (its : Lists) → ShowsPartsOf compiled.chart.lines setup other its
      → IsWiredBy compiled.chart.lines other plan
  pub counted : CountsDifferences missing extra counts
  pub tells : IsToldText telling wiring version compiled.chart.lines setup (Differs plan missing extra) text

-- a text that is right of the panels of two texts was written after what was there
pub record Prints (chart wiring : List ℕ) (IsRight : Version → Compilation → Wiring → List ℕ → Type 0) (old new : Option (List ℕ))
    : Type 0 where
  pub compiled : Compilation
  pub version : Version
  pub setup : Wiring
  pub panels : ArePanels chart wiring compiled version setup
  pub text : List ℕ
  pub right : IsRight version compiled setup text
  pub written : Appends old new text

-- the text of what is found was: by these counts the panel is not wired for the chart, by none it is
abbrev pub PrintsFound : Telling → (chart wiring : List ℕ) → Option Counts → (old new : Option (List ℕ)) → Type 0
PrintsFound telling chart wiring None = Prints chart wiring (λ _. IsWiredText)
PrintsFound telling chart wiring (Some counts) = Prints chart wiring (IsUnwiredText telling wiring counts)
