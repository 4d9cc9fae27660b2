use Rattle.std.proofs.Common.{Some, ap, length, refl, slice_get, sym, ◌∙◌, ◌≡◌}
use Rattle.std.proofs.lemmas.Option.{slice_get_read}
use Rattle.wiring_legend.proofs.LineSetupLemmas.{setups-more, setups-none}
use Rattle.wiring_legend.proofs.writing.line_setups.Goals as goal

pub loop-line-init : goal.loop-line-init
loop-line-init c = setups-none c.args.chart.now.lines c.args.plan.now c.args.source.now c.new-all.result.items c.new-all.ensures.items

pub loop-line-preserved : goal.loop-line-preserved
loop-line-preserved c =
    let at : slice_get c.lines-line-items.result.now c.loop-line.line-index ≡ Some c.line-item.result =
    slice_get_read c.lines-line-items.result.now (length c.lines-line-items.result.now) c.loop-line.line-index c.line-item.result
    refl c.loop-line-test.true c.line-item.is in
    let there = ap (λ ls. slice_get ls c.loop-line.line-index) (sym c.lines-line-items.ensures.value) ∙ at in
    setups-more c.args.chart.now.lines c.args.plan.now c.args.source.now c.loop-line.line-index c.line-item.result
    c.loop-line.all.items c.push.new.self.items _ c.loop-line.invariant there
    (record { words = c.in_ok-words.ensures; asks = c.in_ok-line_setup.ensures }) c.in_ok-push.ensures.items
