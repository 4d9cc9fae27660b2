use Rattle.std.proofs.Common.{List, [], subst, sym}
use Rattle.hubs.specs.declared.hub.Hub.{Hub}
use Rattle.hubs.specs.declared.hub.Hub.TheVariants.{FR}
use Rattle.show_drawings.specs.declared.drawings.panel_drawing.drawing.PanelWire.{PanelWire}
use Rattle.show_sections.specs.ChartPanels.Asking.{AreAsked}
use Rattle.show_sections.proofs.ChartPanels.Asks.{asked_all, asked_item, asked_none}
use Rattle.show_sections.proofs.chart_panels.asking.all_asked.Goals as goal

pub loop-pair-init : goal.loop-pair-init
loop-pair-init c =
    subst (λ (l : List PanelWire). AreAsked c.args.chart.now.lines c.args.plan.now [] l) (sym c.new-wires.ensures.items)
    (asked_none c.args.chart.now.lines c.args.plan.now)

pub loop-pair-preserved : goal.loop-pair-preserved
loop-pair-preserved c =
    let d : Hub × Hub = (FR 0, FR 0) in
    asked_item c.args.chart.now.lines c.args.plan.now c.args.pairs.now c.loop-pair.pair-index d c.loop-pair.wires.items
    c.push.new.self.items c.in_ok-wire.wire c.loop-pair-test.true c.loop-pair.invariant c.in_ok-wire.ensures
    c.in_ok-push.ensures.items

pub returns : goal.returns
returns c =
    asked_all c.args.chart.now.lines c.args.plan.now c.args.pairs.now c.loop-pair.pair-index c.loop-pair.wires.items
    c.loop-pair-test.false c.loop-pair.invariant
