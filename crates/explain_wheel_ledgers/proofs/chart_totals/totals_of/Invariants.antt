use Rattle.explain_wheel_ledgers.proofs.Lists.{Gathers}
use Rattle.explain_wheel_ledgers.proofs.chart_totals.totals_of.Given as goal

-- the totals of the lines so far are there
abbrev pub invariant-loop-line : goal.invariant-loop-line
invariant-loop-line l = Gathers l.chart.lines l.plan l.line-items l.line-index l.totals.items
