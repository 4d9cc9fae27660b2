use Rattle.report_misfits.proofs.Pending.{IsSettledTo}
use Rattle.report_misfits.proofs.open_total.add_pending.Given as goal

abbrev pub invariant-loop-k : goal.invariant-loop-k
invariant-loop-k l = IsSettledTo l.fn.totals l.places l.amounts l.k l.totals
