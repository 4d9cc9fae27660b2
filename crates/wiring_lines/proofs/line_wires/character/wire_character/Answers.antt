use Rattle.std.proofs.Common.{sym}
use Rattle.std.proofs.lemmas.Result.{on_ok_weaker}
use Rattle.wiring_lines.proofs.LineWires.Steps.{adds-character}
use Rattle.wiring_lines.proofs.line_wires.character.wire_character.Goals as goal

pub returns-in-Some : goal.returns-in-Some
returns-in-Some c = on_ok_weaker c.wire_rows.result (adds-character (sym c.in-Some.ensures)) c.wire_rows.ensures
