-- What is found of panels, by what was found of a setup.
use Rattle.std.proofs.Common.{◌≡◌, ◌∙◌, ◌++◌, List, ℕ, Option, Some, None, ap, append-nil, codes, subst}
use Rattle.chart_lines.specs.declared.charts.chart.Line.{Line}
use Rattle.compile407.specs.Compilation.{Compilation}
use Rattle.cli_matching.specs.Found.{IsUnwiredText, IsWiredText}
use Rattle.cli_matching.specs.Helper.{IsFoundText}
use Rattle.cli_matching.specs.MatchTexts.Counts.{TellsCounts}
use Rattle.cli_matching.specs.MatchTexts.PlanText.{plan_text}
use Rattle.cli_matching.specs.MatchTexts.Progress.{IsToldText}
use Rattle.cli_matching.specs.declared.match_texts.counts.Counts.{Counts}
use Rattle.cli_matching.specs.declared.match_texts.telling.Telling.{Telling}
use Rattle.cli_matching.specs.declared.match_texts.telling.Telling.TheVariants as telling
use Rattle.match_panels.specs.MatchingWords.Answers.{IsMatched, IsMatchingOf, plan_told}
use Rattle.match_panels.specs.declared.matching.answer.Matching.{Matching}
use Rattle.match_panels.specs.declared.matching.answer.Matching.TheVariants.{Differs, Matched}
use Rattle.match_plans.specs.NamingWires.{ShowsPartsOf}
use Rattle.match_plans.specs.Wired.{IsWiredBy}
use Rattle.chart_plans.specs.PlansWords.Plans.{Lists}
use Rattle.report_runs.specs.PrintPromises.Promises.{BeginsReport, PrintsReport}
use Rattle.hubs.specs.SetupsWords.Wiring.{Wiring}
use Rattle.wire_chart.specs.Below.wiring_text.declared.statement.Version.{Version}

-- of a setup that is wired for the chart no more is told
told_wired : (telling : Telling) (wiring : List ℕ) (version : Version) (lines : List Line) (setup : Wiring) (plan : Lists) (text : List ℕ)
    → IsToldText telling wiring version lines setup (Matched plan) text → text ≡ codes "ok\n" ++ plan_text lines plan
told_wired telling.Wires wiring version lines setup plan text told =
    told.spelled ∙ ap (λ (behind : List ℕ). told.found ++ behind) told.far ∙ append-nil told.found ∙ told.tells
told_wired telling.Hints wiring version lines setup plan text told = told

pub found_text : (telling : Telling) (wiring : List ℕ) (version : Version) (compiled : Compilation) (setup : Wiring) (matching : Matching) (counts : Option Counts) (text : List ℕ)
    → IsMatchingOf compiled.chart.lines setup matching
    → ((its : Lists) → IsWiredBy compiled.chart.lines setup its → IsMatched matching)
    → ((other : Wiring) (its : Lists) → ShowsPartsOf compiled.chart.lines setup other its
    → IsWiredBy compiled.chart.lines other (plan_told matching))
    → (IsMatched matching → PrintsReport compiled.chart setup) → (IsMatched matching → BeginsReport compiled.chart setup)
    → TellsCounts matching counts → IsToldText telling wiring version compiled.chart.lines setup matching text
    → IsFoundText telling wiring version compiled setup counts text
found_text telling wiring version compiled setup (Matched plan) None text told found shown prints begins counted spelled =
    record { plan = plan; wired = told; prints = prints tt; begins = begins tt; spelled = told_wired telling wiring version compiled.chart.lines setup plan text spelled }
found_text telling wiring version compiled setup (Matched plan) (Some counts) text told found shown prints begins counted spelled = absurd counted
found_text telling wiring version compiled setup (Differs plan missing extra) None text told found shown prints begins counted spelled = absurd counted
found_text telling wiring version compiled setup (Differs plan missing extra) (Some counts) text told found shown prints begins counted spelled =
    record {
      unwired = found;
      plan = plan;
      missing = missing;
      extra = extra;
      differs = told;
      shown = shown;
      counted = counted;
      tells = spelled;
    }

-- which text it is, by the counts
pub wired_found : (telling : Telling) (wiring : List ℕ) (version : Version) (compiled : Compilation) (setup : Wiring) (counts : Option Counts) (text : List ℕ) → counts ≡ None
    → IsFoundText telling wiring version compiled setup counts text → IsWiredText compiled setup text
wired_found telling wiring version compiled setup counts text is found =
    subst (λ (its : Option Counts). IsFoundText telling wiring version compiled setup its text) is found

pub unwired_found : (telling : Telling) (wiring : List ℕ) (version : Version) (compiled : Compilation) (setup : Wiring) (counts : Option Counts) (its : Counts) (text : List ℕ) → counts ≡ Some its
    → IsFoundText telling wiring version compiled setup counts text → IsUnwiredText telling wiring its version compiled setup text
unwired_found telling wiring version compiled setup counts its text is found =
    subst (λ (of : Option Counts). IsFoundText telling wiring version compiled setup of text) is found
