use Rattle.report_runs.proofs.LastCards.{last_goes_on}
use Rattle.report_runs.proofs.run.try_totals.Goals as goal

pub returns-in-Some-clause-goes_on : goal.returns-in-Some-clause-goes_on
returns-in-Some-clause-goes_on c =
    last_goes_on c.args.chart.now.lines c.in-Some.card c.args.last.now c.args.next.now c.args.sums.now c.take.new.self c.in-Some.is
    c.take.ensures.goes_on c.take.ensures.counted
