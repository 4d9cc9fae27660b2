use Rattle.std.proofs.Common.{List, Some, ap, arith, length, refl, slice_get, subst, sym, ◌∙◌, ◌≡◌}
use Rattle.std.proofs.lemmas.Option.{slice_get_read}
use Rattle.std.specs.Prelude.{Contains}
use Rattle.chart_lines.specs.declared.charts.chart.Line.{Line}
use Rattle.wiring_legend.proofs.Groups.{groups-all, groups-more, groups-none}
use Rattle.wiring_legend.proofs.writing.legend.Goals as goal

pub loop-line-init : goal.loop-line-init
loop-line-init c = groups-none c.args.version c.args.chart.now.lines c.args.plan.now c.args.source.now c.new-text.result.items c.new-text.ensures.items

pub write_group-requires-clause-listed : goal.write_group-requires-clause-listed
write_group-requires-clause-listed c =
    subst (λ (l : List Line). Contains l c.line-item.result) c.lines-line-items.ensures.value
    (c.loop-line.line-index, c.loop-line-test.true, sym c.line-item.is)

pub loop-line-preserved : goal.loop-line-preserved
loop-line-preserved c =
    let at : slice_get c.lines-line-items.result.now c.loop-line.line-index ≡ Some c.line-item.result =
    slice_get_read c.lines-line-items.result.now (length c.lines-line-items.result.now) c.loop-line.line-index c.line-item.result
    refl c.loop-line-test.true c.line-item.is in
    let there = ap (λ ls. slice_get ls c.loop-line.line-index) (sym c.lines-line-items.ensures.value) ∙ at in
    groups-more c.args.version c.args.chart.now.lines c.args.plan.now c.args.source.now c.loop-line.line-index c.line-item.result
    c.loop-line.text.items c.write_group.new.legend.items c.loop-line.invariant there c.in_ok-write_group.ensures

pub returns : goal.returns
returns c =
    let long = ap length c.lines-line-items.ensures.value in
    groups-all c.args.version c.args.chart.now.lines c.args.plan.now c.args.source.now c.loop-line.line-index c.loop-line.text.items
    c.loop-line.invariant (omega (arith, long))
