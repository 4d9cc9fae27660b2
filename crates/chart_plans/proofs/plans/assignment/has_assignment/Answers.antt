use Rattle.std.proofs.Common.{true, false}
use Rattle.capacity.specs.Capacities.{standard}
use Rattle.chart_plans.specs.WantedWords.ChartTotals.{totals_of}
use Rattle.chart_plans.proofs.PlansWords.Enough.{IsAssignment-tests}
use Rattle.chart_plans.proofs.plans.assignment.has_assignment.Goals as goal

pub returns-then-has_own : goal.returns-then-has_own
returns-then-has_own c =
    IsAssignment-tests (totals_of c.args.chart.now.lines) standard c.args.counters.now true c.has_enough-has_enough.result
    (rw (c.if-has_own.true, c.standard.ensures) at c.are_own-has_own.ensures) c.has_enough-has_enough.ensures

pub returns-else-has_own : goal.returns-else-has_own
returns-else-has_own c =
    rw c.if-has_own.false
    (IsAssignment-tests (totals_of c.args.chart.now.lines) standard c.args.counters.now false c.has_enough-has_enough.result
    (rw (c.if-has_own.false, c.standard.ensures) at c.are_own-has_own.ensures) c.has_enough-has_enough.ensures)
