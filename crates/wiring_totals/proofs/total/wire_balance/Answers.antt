use Rattle.hubs.specs.declared.hub.Hub.TheVariants.{BAC, BAT, BT, MI, PX, RO}
use Rattle.std.proofs.Common.{ap}
use Rattle.std.proofs.lemmas.Result.{on_ok_weaker}
use Rattle.wiring_lines.proofs.LineWires.Steps.{adds-both, adds-by, one-as}
use Rattle.wiring_totals.specs.HelperCounters.{ControlWires}
use Rattle.wiring_totals.proofs.total.wire_balance.Goals as goal

pub returns : goal.returns
returns c =
    let e = c.number-program.ensures in
    let top = c.top_group-top.ensures.value in
    on_ok_weaker c.wire_controls-2.result
    (λ last. adds-both (one-as c.in_ok-connect.ensures (ap (λ n. PX n 1) e) (ap BT top))
    (adds-both (one-as c.in_ok-connect-2.ensures (ap (λ n. PX n 2) e) (ap (λ g. BAC g 1) top))
    (adds-both (adds-by (λ g. ControlWires (BAT g 1) RO c.args.counter) c.in_ok-wire_controls.ensures top)
    (adds-by (λ g. ControlWires (BAT g 1) MI c.args.counter) last top))))
    c.wire_controls-2.ensures
