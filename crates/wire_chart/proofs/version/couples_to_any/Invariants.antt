use Rattle.wire_chart.proofs.Joining.{NoneTo}
use Rattle.wire_chart.proofs.version.couples_to_any.Given as goal

abbrev pub invariant-loop-number : goal.invariant-loop-number
invariant-loop-number l = NoneTo l.setup l.exit l.number
