use Rattle.hubs.specs.declared.hub.Hub.TheVariants.{ST}
use Rattle.std.proofs.Common.{ap, refl, sym}
use Rattle.std.proofs.lemmas.Result.{on_ok_weaker}
use Rattle.wiring_lines.proofs.LineWires.Steps.{adds-both, adds-some, one-as}
use Rattle.wiring_lines.proofs.line_wires.control.wire_compared.Goals as goal

pub returns : goal.returns
returns c =
    on_ok_weaker c.connect-3.result
    (λ last. adds-some (sym c.in-Some.ensures.value)
    (adds-both c.in_ok-connect.ensures
    (adds-both c.in_ok-connect-2.ensures (one-as last refl (ap ST c.number.ensures)))))
    c.connect-3.ensures
