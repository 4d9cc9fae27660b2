-- What can be answered excludes what else can be told, and one thing at most is told.
use Rattle.std.specs.Prelude.{◌≡◌, ℕ, List}
use Rattle.chart_text.specs.Below.chart_lines.ChartsWords.Chart.{Chart}
use Rattle.chart_text.specs.ChartText.{Reads}
use Rattle.fault_lines.specs.declared.faults.chart.ChartFault.{ChartFault}
use Rattle.fault_lines.specs.declared.faults.deck.RunFault.{RunFault}
use Rattle.compile407.specs.ChartFaults.{HasChartFault}
use Rattle.compile407.specs.Compilation.{Compilation, IsCompiled}
use Rattle.compile407.specs.RunFaults.{HasRunFault}
use Rattle.compile407.specs.Runnable.{IsRunnable}

-- a text that compiles has no fault
abbrev pub CompiledTextsHaveNoFault : Type 0
CompiledTextsHaveNoFault =
    (bytes : List ℕ) (compiled : Compilation) (fault : ChartFault) → Reads bytes compiled.chart → IsCompiled compiled →
    ¬ HasChartFault bytes fault

-- a deck that can be run has no fault
abbrev pub RunnableDecksHaveNoFault : Type 0
RunnableDecksHaveNoFault =
    (of_cards : Chart) (cards : List (List ℕ)) (fault : RunFault) → IsRunnable of_cards cards →
    ¬ HasRunFault of_cards cards fault

-- a text has at most one fault of a chart
abbrev pub ChartsHaveOneFault : Type 0
ChartsHaveOneFault =
    (bytes : List ℕ) (one other : ChartFault) → HasChartFault bytes one → HasChartFault bytes other → one ≡ other

-- a deck has at most one fault
abbrev pub DecksHaveOneFault : Type 0
DecksHaveOneFault =
    (of_cards : Chart) (cards : List (List ℕ)) (one other : RunFault) → HasRunFault of_cards cards one →
    HasRunFault of_cards cards other → one ≡ other
