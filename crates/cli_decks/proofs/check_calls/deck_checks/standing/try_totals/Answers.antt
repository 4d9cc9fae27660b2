use Rattle.cli_decks.proofs.CheckCalls.DeckChecks.Sums.{last_goes_on}
use Rattle.cli_decks.proofs.check_calls.deck_checks.standing.try_totals.Goals as goal

pub returns-in-Some-take-clause-goes_on : goal.returns-in-Some-take-clause-goes_on
returns-in-Some-take-clause-goes_on c =
    last_goes_on c.args.chart.now.lines c.in-Some.card c.args.last.now c.args.next.now c.args.sums.now c.take.new.self c.in-Some.is
    c.take.ensures.goes_on c.take.ensures.counted

pub returns-in-None-take-clause-goes_on : goal.returns-in-None-take-clause-goes_on
returns-in-None-take-clause-goes_on c =
    last_goes_on c.args.chart.now.lines c.in-Some.card c.args.last.now c.args.next.now c.args.sums.now c.take.new.self c.in-Some.is
    c.take.ensures.goes_on c.take.ensures.counted
