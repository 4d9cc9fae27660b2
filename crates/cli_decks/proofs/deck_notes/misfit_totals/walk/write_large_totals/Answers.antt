use Rattle.std.proofs.Common.{arith}
use Rattle.cli_decks.proofs.DeckNotes.MisfitTotals.Grouped.{at_zero, walked, walks_first}
use Rattle.cli_decks.proofs.deck_notes.misfit_totals.walk.write_large_totals.Goals as goal

pub loop-place-init : goal.loop-place-init
loop-place-init c =
    walks_first c.args.chart.now.lines c.args.cards.now (record { minor = 0; intermediate = 0; major = 0; deck = 0 }) c.args.text.now.items at_zero

pub returns : goal.returns
returns c =
    walked c.args.chart.now.lines c.args.cards.now c.loop-place.place c.loop-place.starts c.args.text.now.items c.loop-place.text.items
    (omega arith) c.loop-place.invariant
