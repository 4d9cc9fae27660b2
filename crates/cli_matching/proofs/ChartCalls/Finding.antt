-- What is found of a wiring chart, by what is found of its panel.
use Rattle.std.proofs.Common.{◌≡◌, ℕ, List, Option, Some, None, subst}
use Rattle.cli_matching.specs.ChartCalls.ReadBack.{IsBeside, IsChartOf}
use Rattle.compile407.specs.Compilation.{Compilation, IsCompiled}
use Rattle.compile407.specs.Headline.{WiredSetupsBeginReports, WiredSetupsPrintReports}
use Rattle.cli_matching.specs.MatchTexts.Counts.{TellsCounts}
use Rattle.cli_matching.specs.declared.match_texts.counts.Counts.{Counts}
use Rattle.match_panels.specs.MatchingWords.Answers.{IsMatched, IsMatchingOf, plan_told}
use Rattle.match_panels.specs.declared.matching.answer.Matching.{Matching}
use Rattle.match_panels.specs.declared.matching.answer.Matching.TheVariants.{Differs, Matched}
use Rattle.readback_charts.specs.KnownCharts.{IsReadFirst}
use Rattle.readback_charts.specs.PanelChart.{IsReadBack}
use Rattle.match_plans.specs.NamingWires.{ShowsPartsOf}
use Rattle.match_plans.specs.Wired.{IsWiredBy}
use Rattle.chart_plans.specs.PlansWords.Plans.{Lists}
use Rattle.hubs.specs.SetupsWords.Wiring.{Wiring}
use Rattle.wire_chart.specs.Below.wiring_text.WiringText.{ReadsAs}

module _ (prints : WiredSetupsPrintReports) (begins : WiredSetupsBeginReports) where
  found_beside : (compiled : Compilation) (setup : Wiring) (matching : Matching) (counts : Option Counts) → IsCompiled compiled
      → IsMatchingOf compiled.chart.lines setup matching
      → ((its : Lists) → IsWiredBy compiled.chart.lines setup its → IsMatched matching)
      → ((other : Wiring) (its : Lists) → ShowsPartsOf compiled.chart.lines setup other its
      → IsWiredBy compiled.chart.lines other (plan_told matching))
      → TellsCounts matching counts → IsBeside counts compiled setup
  found_beside compiled setup (Matched plan) None is told found shown counted = record {
    plan = plan;
    wired = told;
    prints = prints compiled.chart plan setup is.sound told.planned told.wired;
    begins = begins compiled.chart plan setup is.sound told.planned told.wired;
  }
  found_beside compiled setup (Matched plan) (Some counts) is told found shown counted = absurd counted
  found_beside compiled setup (Differs plan missing extra) None is told found shown counted = absurd counted
  found_beside compiled setup (Differs plan missing extra) (Some counts) is told found shown counted =
      record { unwired = found; plan = plan; missing = missing; extra = extra; differs = told; shown = shown; counted = counted }

  -- the chart of a wiring chart, by that of its panel
  pub found_chart : (wiring text : List ℕ) (setup : Wiring) (compiled : Compilation) (matching : Matching) (counts : Option Counts)
      → ReadsAs wiring setup → IsReadBack setup text compiled matching → IsReadFirst setup text → TellsCounts matching counts
      → IsChartOf wiring counts text
  found_chart wiring text setup compiled matching counts reads its first counted = record {
    setup = setup;
    reads = reads;
    first = first;
    compiled = compiled;
    compiles = record { read = its.chart.read; wired = its.chart.compiled_so };
    beside = found_beside compiled setup matching counts its.chart.compiled_so its.beside.told its.beside.found its.beside.shown counted;
  }

-- by the counts that are told
pub counts_known : (wiring text : List ℕ) (counts its : Option Counts) → counts ≡ its → IsChartOf wiring counts text → IsChartOf wiring its text
counts_known wiring text counts its is found = subst (λ (of : Option Counts). IsChartOf wiring of text) is found
