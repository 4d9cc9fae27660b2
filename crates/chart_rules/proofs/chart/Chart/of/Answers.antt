use Rattle.std.proofs.Common.{◌∙◌, sym, subst}
use Rattle.chart_rules.proofs.Laws.{AreOnCard-lawful, AreSized-lawful}
use Rattle.chart_rules.specs.HelperAmounts.{AreSized}
use Rattle.chart_rules.specs.HelperOnCard.{AreOnCard}
use Rattle.chart_rules.proofs.chart.Chart.of.Goals as goal

pub of-texts-requires : goal.of-texts-requires
of-texts-requires c =
    subst AreOnCard (sym (c.as_slice.ensures.value ∙ c.requires.fields)) (AreOnCard-lawful c.args.raw c.requires.lawful)

pub of-amounts-requires-clause-on_card : goal.of-amounts-requires-clause-on_card
of-amounts-requires-clause-on_card c =
    subst AreOnCard (sym (c.as_slice-2.ensures.value ∙ c.requires.fields)) (AreOnCard-lawful c.args.raw c.requires.lawful)

pub of-amounts-requires-clause-sized : goal.of-amounts-requires-clause-sized
of-amounts-requires-clause-sized c =
    subst AreSized (sym (c.as_slice-2.ensures.value ∙ c.requires.fields)) (AreSized-lawful c.args.raw c.requires.lawful)
