-- What is found of a panel beside a chart, by what is found of it beside the lines of that chart.
use Rattle.std.proofs.Common.{◌≡◌, Err, IfOk, Ok, Result, subst}
use Rattle.chart_lines.specs.ChartsWords.Chart.{Chart}
use Rattle.compile407.specs.Compilation.{Compilation}
use Rattle.match_panels.specs.MatchingWords.Answers.{IsMatched, IsMatchingOf, plan_told}
use Rattle.match_panels.specs.declared.matching.answer.Matching.{Matching}
use Rattle.readback_charts.specs.PanelChart.{IsFound}
use Rattle.match_plans.specs.NamingWires.{ShowsPartsOf}
use Rattle.match_plans.specs.Wired.{IsWiredBy}
use Rattle.chart_plans.specs.PlansWords.Plans.{Lists}
use Rattle.hubs.specs.SetupsWords.Wiring.{Wiring}

pub found-as : {E : Type 0} (compiled : Compilation) (chart : Chart) (setup : Wiring) (r : Result Matching E) → chart ≡ compiled.chart
    → IfOk r (IsMatchingOf chart.lines setup)
    → IfOk r (λ matching. (its : Lists) → IsWiredBy chart.lines setup its → IsMatched matching)
    → IfOk r (λ matching. (other : Wiring) (its : Lists) → ShowsPartsOf chart.lines setup other its
    → IsWiredBy chart.lines other (plan_told matching))
    → IfOk r (IsFound setup compiled)
found-as compiled chart setup (Ok matching) same told found shown = record {
  told = subst (λ (of : Chart). IsMatchingOf of.lines setup matching) same told;
  found = subst (λ (of : Chart). (its : Lists) → IsWiredBy of.lines setup its → IsMatched matching) same found;
  shown =
      subst
      (λ (of : Chart). (other : Wiring) (its : Lists) → ShowsPartsOf of.lines setup other its
      → IsWiredBy of.lines other (plan_told matching))
      same shown;
}
found-as compiled chart setup (Err e) same told found shown = tt
