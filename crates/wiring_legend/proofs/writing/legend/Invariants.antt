use Rattle.wiring_legend.specs.Legend.{AreGroups}
use Rattle.wiring_legend.proofs.writing.legend.Given as goal

abbrev pub invariant-loop-line : goal.invariant-loop-line
invariant-loop-line l = AreGroups l.version l.chart.lines l.plan l.source l.line-index l.text.items
