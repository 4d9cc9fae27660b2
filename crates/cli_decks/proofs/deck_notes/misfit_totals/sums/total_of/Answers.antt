use Rattle.std.proofs.Common.{arith}
use Rattle.std.proofs.lemmas.Int.{ints}
use Rattle.report_misfits.proofs.Bounds.{value_within}
use Rattle.cli_decks.proofs.DeckNotes.MisfitTotals.Summed.{total_at}
use Rattle.cli_decks.proofs.deck_notes.misfit_totals.sums.total_of.Goals as goal

pub loop-card-preserved : goal.loop-card-preserved
loop-card-preserved c =
    let total = total_at c.args.field.now c.args.group.now c.loop-card.card-index c.card-item.result c.loop-card-test.true c.card-item.is in
    let value = value_within c.args.field.now c.card-item.result c.requires.good in
    record {
      whole = omega (arith, ints, c.loop-card.invariant.whole, total, c.value_of-sum.ensures.value);
      small = (
        omega (arith, ints, c.loop-card.invariant.small, value, c.value_of-sum.ensures.value),
        omega (arith, ints, c.loop-card.invariant.small, value, c.value_of-sum.ensures.value),
      );
    }
