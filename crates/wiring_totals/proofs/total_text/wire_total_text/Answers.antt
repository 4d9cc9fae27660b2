use Rattle.hubs.specs.declared.hub.Hub.TheVariants.{PX}
use Rattle.std.proofs.Common.{ap, refl, sym}
use Rattle.std.proofs.lemmas.Result.{on_ok_weaker}
use Rattle.wiring_lines.proofs.LineWires.Steps.{adds-both, adds-some, one-as}
use Rattle.wiring_totals.proofs.total_text.wire_total_text.Goals as goal

pub returns : goal.returns
returns c =
    on_ok_weaker c.wire_stored.result
    (λ last. adds-some (sym c.in-Some.ensures.value)
    (adds-both c.in_ok-connect.ensures
    (adds-both (one-as c.in_ok-connect-2.ensures (ap (λ n. PX n 3) c.number.ensures) refl) last)))
    c.wire_stored.ensures
