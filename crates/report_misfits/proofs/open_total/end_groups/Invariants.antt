use Rattle.std.proofs.Common.{◌≡◌, ◌++◌, map, take, drop}
use Rattle.report_misfits.specs.OpenTotals.{closed_to}
use Rattle.report_misfits.proofs.open_total.end_groups.Given as goal

abbrev pub invariant-loop-total : goal.invariant-loop-total
invariant-loop-total l = l.totals ≡ map (closed_to l.ended) (take l.total-index l.fn.totals) ++ drop l.total-index l.fn.totals
