use Rattle.chart_rules.proofs.AmountMarks.{IsUnsignedTo}
use Rattle.chart_rules.proofs.amounts.mark_unsigned.Given as goal

abbrev pub invariant-loop-place : goal.invariant-loop-place
invariant-loop-place l = IsUnsignedTo l.first l.place l.sign l.fn.masks l.masks
