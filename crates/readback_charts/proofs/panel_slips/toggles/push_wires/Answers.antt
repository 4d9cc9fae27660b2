use Rattle.std.proofs.Common.{Contains, subst, sym}
use Rattle.std.proofs.lemmas.List.Elements.{Contains-get_or}
use Rattle.readback_charts.proofs.PanelSlips.Slips.{wire_listed, wires_more}
use Rattle.readback_charts.proofs.panel_slips.toggles.push_wires.Goals as goal

pub loop-number-preserved : goal.loop-number-preserved
loop-number-preserved c =
    let entries = c.entries_of-number-items.result.now in
    wires_more c.args.setup.now c.loop-number.wires.items c.push.new.self.items _ c.in_ok-push.ensures.items c.loop-number.invariant
    (wire_listed c.args.setup.now c.args.hub entries c.args.exit c.from-entry.result c.requires.numbered
    c.entries_of-number-items.ensures.value
    (subst (λ number. Contains entries number) (sym c.from-entry.ensures)
    (Contains-get_or entries c.loop-number.number-index 0 c.loop-number-test.true)))
