use Rattle.cli_decks.specs.DeckNotes.MisfitTotals.HelperStarts.{Walks}
use Rattle.cli_decks.proofs.deck_notes.misfit_totals.walk.write_large_totals.Given as goal

abbrev pub invariant-loop-place : goal.invariant-loop-place
invariant-loop-place l = Walks l.chart.lines l.cards l.place l.starts l.initial.text.items l.text.items
