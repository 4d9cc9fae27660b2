use Rattle.hubs.specs.declared.hub.Hub.TheVariants.{IE, IX}
use Rattle.std.proofs.Common.{ap, refl, sym}
use Rattle.std.proofs.lemmas.Result.{on_ok_weaker}
use Rattle.wiring_lines.proofs.LineWires.Steps.{adds-both, adds-some, one-as}
use Rattle.wiring_lines.proofs.line_wires.detail.wire_indicated_column.Goals as goal

pub returns : goal.returns
returns c =
    let e = c.number-number.ensures in
    on_ok_weaker c.connect-2.result
    (λ last. adds-some (sym c.in-Some.ensures.value)
    (adds-both (one-as c.in_ok-connect.ensures refl (ap (λ n. IE n c.in-Some.position) e))
    (one-as last (ap (λ n. IX n c.in-Some.position) e) refl)))
    c.connect-2.ensures
