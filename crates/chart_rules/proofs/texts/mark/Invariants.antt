use Rattle.chart_rules.proofs.TextMarks.{IsMarkedTo}
use Rattle.chart_rules.proofs.texts.mark.Given as goal

abbrev pub invariant-loop-place : goal.invariant-loop-place
invariant-loop-place l = IsMarkedTo l.first l.place l.fn.masks l.masks
