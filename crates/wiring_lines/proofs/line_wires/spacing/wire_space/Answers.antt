use Rattle.std.proofs.Common.{arith, rules}
use Rattle.std.proofs.lemmas.Bool.Decides.{nat_tests}
use Rattle.std.proofs.lemmas.Result.{on_ok_weaker}
use Rattle.wiring_lines.proofs.LineWires.Steps.{adds-where}
use Rattle.wiring_lines.proofs.line_wires.spacing.wire_space.Goals as goal

pub returns-then-lines-gt1 : goal.returns-then-lines-gt1
returns-then-lines-gt1 c =
    let from = c.source_of.ensures.value in
    on_ok_weaker c.connect.result
    (λ added. adds-where (grind (arith, nat_tests, c.if-lines-gt1.true, c.number-lines.ensures)) (search rules))
    c.connect.ensures
