use Rattle.std.proofs.Common.{◌∙◌, sym, ap, set}
use Rattle.std.proofs.lemmas.List.Edits.{map_over_more}
use Rattle.report_misfits.specs.HelperPending.{taking_card}
use Rattle.report_misfits.proofs.open_total.take_card.Goals as goal

pub loop-amount-preserved : goal.loop-amount-preserved
loop-amount-preserved c =
    ap (set c.loop-amount.amounts c.loop-amount.amount-index) (c.take.ensures ∙ ap (taking_card c.args.card.now) (sym c.amount-item.is))
    ∙ map_over_more (taking_card c.args.card.now) c.args.amounts.now c.loop-amount.amounts c.loop-amount.amount-index c.amount-item.result
    c.loop-amount-test.true
    c.loop-amount.invariant
    c.amount-item.is
