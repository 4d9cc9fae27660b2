use Rattle.std.proofs.Common.{arith}
use Rattle.std.proofs.lemmas.Bool.Decides.{nat_tests}
use Rattle.std.proofs.lemmas.Result.{on_ok_weaker}
use Rattle.wiring_lines.proofs.LineWires.Steps.{adds-where}
use Rattle.wiring_lines.proofs.line_wires.character.wire_point.Goals as goal

pub returns-then-decimals-gt0 : goal.returns-then-decimals-gt0
returns-then-decimals-gt0 c =
    on_ok_weaker c.wire_character.result (adds-where (grind (arith, nat_tests, c.if-decimals-gt0.true))) c.wire_character.ensures
