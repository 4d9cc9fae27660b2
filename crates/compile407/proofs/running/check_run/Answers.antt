use Rattle.compile407.proofs.Headline.{compiled_deck}
use Rattle.compile407.proofs.running.check_run.Goals as goal

pub returns-clause-served : goal.returns-clause-served
returns-clause-served c =
    record {
      deck = compiled_deck c.args.compiled.now c.chart.result.now c.args.cards.now c.chart.ensures.value
          c.if-cards-gt-MOST_CARDS.false
          c.in_ok-check_cards.ensures.valid;
      fits = c.in_ok-check_totals.ensures.fits;
    }
