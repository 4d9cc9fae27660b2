use Rattle.std.proofs.Common.{◌≡◌, drop}
use Rattle.explain_wheel_ledgers.specs.Totals.{find_total}
use Rattle.explain_wheel_ledgers.proofs.chart_totals.find_total.Given as goal

-- the group serves none of the totals so far
abbrev pub invariant-loop-total : goal.invariant-loop-total
invariant-loop-total l = find_total (drop l.total-index l.totals) l.fn.place ≡ find_total l.totals l.fn.place
