use Rattle.wiring_legend.specs.LineSetups.{AreLineSetups}
use Rattle.wiring_legend.proofs.writing.line_setups.Given as goal

-- the lines so far have words and what they ask for
abbrev pub invariant-loop-line : goal.invariant-loop-line
invariant-loop-line l = AreLineSetups l.chart.lines l.plan l.source l.line-index l.all.items
