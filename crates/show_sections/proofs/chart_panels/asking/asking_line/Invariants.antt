use Rattle.show_sections.specs.ChartPanels.Asking.{NoneBefore}
use Rattle.show_sections.proofs.chart_panels.asking.asking_line.Given as goal

-- none of the lines so far asks
abbrev pub invariant-loop-line : goal.invariant-loop-line
invariant-loop-line l = NoneBefore l.chart.lines l.plan l.exit l.entry l.line-index
