use Rattle.std.proofs.Common.{sym}
use Rattle.std.proofs.lemmas.Result.{on_ok_weaker}
use Rattle.wiring_lines.proofs.LineWires.Steps.{adds-some}
use Rattle.wiring_lines.proofs.line_wires.pilot.wire_pickup.Goals as goal

pub returns-in-Some-pilot_of : goal.returns-in-Some-pilot_of
returns-in-Some-pilot_of c =
    on_ok_weaker c.connect.result
    (λ last. adds-some (sym c.in-Some.ensures) (adds-some (sym c.in-Some-pilot_of.ensures.value) last))
    c.connect.ensures
