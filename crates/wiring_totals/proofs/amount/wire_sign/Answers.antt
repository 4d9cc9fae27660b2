use Rattle.std.proofs.lemmas.Result.{on_ok_weaker}
use Rattle.wiring_lines.proofs.LineWires.Steps.{adds-some}
use Rattle.wiring_totals.proofs.amount.wire_sign.Goals as goal

pub returns-in-Some : goal.returns-in-Some
returns-in-Some c = on_ok_weaker c.wire_signed_total.result (adds-some c.in-Some.is) c.wire_signed_total.ensures
