use Rattle.cli_decks.proofs.CheckCalls.DeckChecks.Showing.{taken_shown}
use Rattle.cli_decks.proofs.check_calls.deck_checks.shown.Shown.take.Goals as goal

pub returns-clause-takes : goal.returns-clause-takes
returns-clause-takes c =
    taken_shown c.add.result c.args.chart.now _ c.args.line.now c.args.standing.now c.take-told.new.self c.args.self.now c.add.new.self
    c.take-told.result c.take-told.ensures.takes c.add.ensures.text c.add.ensures.first
