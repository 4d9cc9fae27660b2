use Rattle.hubs.specs.declared.hub.Hub.TheVariants.{PL, MI}
use Rattle.std.proofs.Common.{sym}
use Rattle.std.proofs.lemmas.Result.{on_ok_weaker}
use Rattle.wiring_lines.proofs.LineWires.Steps.{adds-both, adds-by, adds-some}
use Rattle.wiring_totals.specs.HelperCounters.{ControlWires}
use Rattle.wiring_totals.proofs.entry.wire_signed_entry.Goals as goal

pub returns : goal.returns
returns c =
    on_ok_weaker c.wire_controls-2.result
    (λ last. adds-some (sym c.in-Some.ensures.value)
    (adds-both c.in_ok-connect.ensures
    (adds-both
    (adds-by (λ hub. ControlWires hub PL c.args.counter) c.in_ok-wire_controls.ensures c.positive_side-plus.ensures.value)
    (adds-by (λ hub. ControlWires hub MI c.args.counter) last c.negative_side-minus.ensures.value))))
    c.wire_controls-2.ensures
