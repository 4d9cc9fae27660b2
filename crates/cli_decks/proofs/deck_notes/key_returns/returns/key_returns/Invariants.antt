use Rattle.cli_decks.specs.DeckNotes.KeyReturns.HelperKept.{Walks}
use Rattle.cli_decks.proofs.deck_notes.key_returns.returns.key_returns.Given as goal

abbrev pub invariant-loop-place : goal.invariant-loop-place
invariant-loop-place l = Walks l.chart.lines l.cards l.place l.walk
