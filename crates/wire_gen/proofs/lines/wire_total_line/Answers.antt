use Rattle.std.proofs.Common.{sym}
use Rattle.std.proofs.lemmas.Result.{on_ok_weaker}
use Rattle.wiring_lines.proofs.LineWires.Steps.{adds-some}
use Rattle.wire_gen.proofs.lines.wire_total_line.Goals as goal

pub returns-in-Some : goal.returns-in-Some
returns-in-Some c = on_ok_weaker c.wire_total.result (adds-some (sym c.in-Some.ensures)) c.wire_total.ensures
