use Rattle.std.proofs.Common.{length}
use Rattle.cli_decks.specs.CheckCalls.DeckChecks.HelperShown.{HasShown}
use Rattle.cli_decks.proofs.check_calls.deck_checks.shown.show_cards.Given as goal

abbrev pub invariant-loop-line : goal.invariant-loop-line
invariant-loop-line l = HasShown l.chart l.deck l.rest l.standing l.shown

abbrev pub decreases-loop-line : goal.decreases-loop-line
decreases-loop-line l = length l.rest
