use Rattle.cli_decks.proofs.CheckCalls.DeckChecks.Whole.{not_begun}
use Rattle.cli_decks.proofs.check_calls.deck_checks.checking.check_cards.Goals as goal

pub returns-in-Err-clause-ends : goal.returns-in-Err-clause-ends
returns-in-Err-clause-ends g c = not_begun c.args.chart.now (g.R.Read.remaining c.args.deck) (g.W.Write.contents c.args.out.now)
