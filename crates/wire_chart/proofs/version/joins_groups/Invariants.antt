use Rattle.wire_chart.proofs.Joining.{NoneFrom}
use Rattle.wire_chart.proofs.version.joins_groups.Given as goal

abbrev pub invariant-loop-number : goal.invariant-loop-number
invariant-loop-number l = NoneFrom l.setup l.number
