use Rattle.std.proofs.Common.{◌∙◌, sym, ap, set}
use Rattle.std.proofs.lemmas.List.Edits.{map_over_more}
use Rattle.report_misfits.specs.OpenTotals.{closed_to}
use Rattle.report_misfits.proofs.InPlace.{none-closed}
use Rattle.report_misfits.proofs.open_total.end_groups.Goals as goal

pub returns-then-ended-eq0 : goal.returns-then-ended-eq0
returns-then-ended-eq0 c = none-closed c.args.totals.now c.args.ended c.if-ended-eq0.true

pub loop-total-preserved : goal.loop-total-preserved
loop-total-preserved c =
    ap (set c.loop-total.totals c.loop-total.total-index) (c.close.ensures ∙ ap (closed_to c.args.ended) (sym c.total-item.is))
    ∙ map_over_more (closed_to c.args.ended) c.args.totals.now c.loop-total.totals c.loop-total.total-index c.total-item.result
    c.loop-total-test.true
    c.loop-total.invariant
    c.total-item.is
