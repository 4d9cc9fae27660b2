use Rattle.cli_decks.proofs.DeckNotes.MisfitTotals.Grouped.{walks_on}
use Rattle.cli_decks.proofs.deck_notes.misfit_totals.walk.walk.Goals as goal

pub returns : goal.returns
returns c = λ old walks.
    walks_on c.args.chart.now.lines c.args.cards.now c.args.place c.index-cards-place.result c.args.starts.now c.after.result old
    c.args.text.now.items c.write_to.new.text.items c.in_ok-ended.ended c.requires.there c.index-cards-place.is c.card_at-next.result
    c.card_at-next.ensures c.in_ok-ended.ensures.value c.after.ensures c.in_ok-ended.ensures.levels c.in_ok-write_to.ensures walks
