use Rattle.hubs.specs.declared.hub.Hub.TheVariants.{BAC, BAN, BAT, MI, PL}
use Rattle.std.proofs.Common.{ap, refl}
use Rattle.std.proofs.lemmas.Result.{on_ok_weaker}
use Rattle.wiring_lines.proofs.LineWires.Steps.{adds-both, adds-by, one-as}
use Rattle.wiring_totals.specs.HelperCounters.{ControlWires}
use Rattle.wiring_totals.proofs.transfer.wire_signed_transfer.Goals as goal

pub returns : goal.returns
returns c =
    let top = c.top_group-top.ensures.value in
    on_ok_weaker c.wire_controls-2.result
    (λ last. adds-both (one-as c.in_ok-connect.ensures refl (ap (λ g. BAC g 2) top))
    (adds-both (adds-by (λ g. ControlWires (BAN g 2) PL c.args.higher) c.in_ok-wire_controls.ensures top)
    (adds-by (λ g. ControlWires (BAT g 2) MI c.args.higher) last top)))
    c.wire_controls-2.ensures
