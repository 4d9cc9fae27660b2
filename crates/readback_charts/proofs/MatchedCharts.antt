-- Whether a panel is wired for the chart of a text, by what is found of it beside that chart.
use Rattle.std.proofs.Common.{◌≡◌, ◌≢◌, subst, ℕ, List, Some, None}
use Rattle.std.specs.Prelude.{string_bytes}
use Rattle.chart_lines.specs.ChartsWords.Chart.{Chart}
use Rattle.compile407.specs.ChartFaults.{HasChartFault}
use Rattle.compile407.specs.Compilation.{Compilation}
use Rattle.compile407.specs.Outcomes.{CompiledTextsHaveNoFault}
use Rattle.fault_lines.proofs.Below.chart_text.ChartGrammar.{one_chart}
use Rattle.fault_lines.specs.declared.faults.chart.ChartFault.{ChartFault}
use Rattle.fault_lines.specs.declared.faults.chart.ChartFault.TheVariants as chart
use Rattle.match_panels.specs.MatchingWords.Answers.{IsMatched, plan_told}
use Rattle.match_panels.specs.declared.matching.answer.Matching.{Matching}
use Rattle.match_panels.specs.declared.matching.answer.Matching.TheVariants.{Differs, Matched}
use Rattle.readback_charts.specs.KnownCharts.{IsReadOff, known_in}
use Rattle.readback_charts.specs.PanelChart.{HasChart, IsReadBack, IsWiredChart}
use Rattle.readback_charts.specs.declared.answer.PanelChart.{PanelChart}
use Rattle.match_plans.specs.Wired.{IsWiredBy}
use Rattle.readback_panels.specs.Lines.{IsFramed}
use Rattle.chart_plans.specs.PlansWords.Plans.{Lists}
use Rattle.hubs.specs.SetupsWords.Wiring.{Wiring}

-- a text that has a fault of a chart is none
pub no_chart : CompiledTextsHaveNoFault → (text : List ℕ) (fault : ChartFault) → (fault ≢ chart.Memory → HasChartFault text fault)
    → fault ≢ chart.Memory → ¬ HasChart text
no_chart law text fault has not_memory its = law text its.0 fault its.1.read its.1.compiled_so (has not_memory)

-- a chart with which a panel matches is one for which the panel is wired, by the plan that is told
wired_by : (setup : Wiring) (text : List ℕ) (compiled : Compilation) (matching : Matching) → IsMatched matching
    → IsReadBack setup text compiled matching → IsWiredChart setup text compiled (plan_told matching)
wired_by setup text compiled (Matched plan) matched read = record { chart = read.chart; wired = read.beside.told }
wired_by setup text compiled (Differs plan missing extra) matched read = absurd matched

-- a panel that doesn't match with the chart of a text is wired for that chart by no plan
wired_by_none : (setup : Wiring) (text : List ℕ) (compiled : Compilation) (matching : Matching) → ¬ IsMatched matching
    → IsReadBack setup text compiled matching → (other : Compilation) (plan : Lists) → ¬ IsWiredChart setup text other plan
wired_by_none setup text compiled matching differs read other plan wired =
    let same : other.chart ≡ compiled.chart = one_chart text other.chart compiled.chart wired.chart.read read.chart.read in
    differs (read.beside.found plan (subst (λ (of : Chart). IsWiredBy of.lines setup plan) same wired.wired))

module _ (setup : Wiring) (text : List ℕ) (framed : IsFramed text) where
  -- of a text that is no chart none is known
  pub none_of_text : ¬ HasChart text → IsReadOff setup None
  none_of_text no_chart = record {
    text = text;
    framed = framed;
    wired = tt;
    unwired = λ compiled plan wired. no_chart (compiled, wired.chart);
  }

  -- a chart beside which the panel matches is known
  pub known_of_text : (panel : PanelChart) → string_bytes panel.text ≡ text
      → IsReadBack setup (string_bytes panel.text) panel.compiled panel.matching → IsMatched panel.matching
      → IsReadOff setup (known_in (Some panel))
  known_of_text panel same read matched = record {
    text = text;
    framed = framed;
    wired = record {
      its_text = same;
      wired =
          subst (λ (its : List ℕ). IsWiredChart setup its panel.compiled (plan_told panel.matching)) same
          (wired_by setup (string_bytes panel.text) panel.compiled panel.matching matched read);
    };
    unwired = tt;
  }

  -- one beside which it doesn't is not
  pub none_beside : (panel : PanelChart) → string_bytes panel.text ≡ text
      → IsReadBack setup (string_bytes panel.text) panel.compiled panel.matching → ¬ IsMatched panel.matching
      → IsReadOff setup None
  none_beside panel same read differs = record {
    text = text;
    framed = framed;
    wired = tt;
    unwired =
        subst (λ (its : List ℕ). (other : Compilation) (plan : Lists) → ¬ IsWiredChart setup its other plan) same
        (wired_by_none setup (string_bytes panel.text) panel.compiled panel.matching differs read);
  }
