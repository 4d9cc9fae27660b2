use Rattle.std.proofs.Common.{List, Some, ap, length, refl, slice_get, subst, sym, ◌∙◌, ◌≡◌, ◌≤◌}
use Rattle.chart_lines.specs.declared.charts.chart.Line.{Line}
use Rattle.std.proofs.lemmas.Bool.{false≢true}
use Rattle.std.proofs.lemmas.Option.{slice_get_read}
use Rattle.show_sections.proofs.ChartPanels.Asks.{asked_here, none_before, none_more, none_of_all}
use Rattle.show_sections.proofs.chart_panels.asking.asking_line.Goals as goal

pub loop-line-init : goal.loop-line-init
loop-line-init c = none_before c.args.chart.now.lines c.args.plan.now c.args.exit c.args.entry

pub returns-then-has : goal.returns-then-has
returns-then-has c =
    let at : slice_get c.lines-line-items.result.now c.loop-line.line-index ≡ Some c.line-item.result =
    slice_get_read c.lines-line-items.result.now (length c.lines-line-items.result.now) c.loop-line.line-index c.line-item.result
    refl c.loop-line-test.true c.line-item.is in
    let there = ap (λ ls. slice_get ls c.loop-line.line-index) (sym c.lines-line-items.ensures.value) ∙ at in
    asked_here c.args.chart.now.lines c.args.plan.now c.args.exit c.args.entry c.loop-line.line-index c.line-item.result
    c.in_ok-setup.setup c.loop-line.invariant there c.in_ok-setup.ensures (c.has.ensures.value.0 c.if-has.true)

pub loop-line-preserved : goal.loop-line-preserved
loop-line-preserved c =
    let at : slice_get c.lines-line-items.result.now c.loop-line.line-index ≡ Some c.line-item.result =
    slice_get_read c.lines-line-items.result.now (length c.lines-line-items.result.now) c.loop-line.line-index c.line-item.result
    refl c.loop-line-test.true c.line-item.is in
    let there = ap (λ ls. slice_get ls c.loop-line.line-index) (sym c.lines-line-items.ensures.value) ∙ at in
    none_more c.args.chart.now.lines c.args.plan.now c.args.exit c.args.entry c.loop-line.line-index c.line-item.result
    c.in_ok-setup.setup c.loop-line.invariant there c.in_ok-setup.ensures
    (λ wired. false≢true (sym c.if-has.false ∙ c.has.ensures.value.1 wired))

pub returns : goal.returns
returns c =
    none_of_all c.args.chart.now.lines c.args.plan.now c.args.exit c.args.entry c.loop-line.line-index c.loop-line.invariant
    (subst (λ (l : List Line). length l ≤ c.loop-line.line-index) c.lines-line-items.ensures.value c.loop-line-test.false)
