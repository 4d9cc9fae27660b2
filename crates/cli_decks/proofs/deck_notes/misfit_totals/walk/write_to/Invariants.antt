use Rattle.std.proofs.Common.{◌≡◌, ◌+◌, ◌++◌, slice_range}
use Rattle.cli_decks.specs.DeckNotes.MisfitTotals.HelperStarts.{start_of}
use Rattle.cli_decks.specs.DeckNotes.MisfitTotals.Large.{large_to}
use Rattle.cli_decks.proofs.deck_notes.misfit_totals.walk.write_to.Given as goal

-- the levels up to this one are done
abbrev pub invariant-loop-below : goal.invariant-loop-below
invariant-loop-below l =
    l.text.items
    ≡ l.initial.text.items
    ++ large_to l.chart.lines (l.fn.place + 1) l.below (λ level. slice_range l.cards (start_of l.starts level) (l.fn.place + 1))
