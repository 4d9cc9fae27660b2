use Rattle.std.proofs.Common.{arith}
use Rattle.std.proofs.lemmas.Option.{slice_get-get_or}
use Rattle.wiring_lines.proofs.LineWires.Steps.{adds-some, upto-all, upto-more, upto-none}
use Rattle.wiring_lines.proofs.line_wires.character.wire_literal.Goals as goal

pub loop-j-init : goal.loop-j-init
loop-j-init c = upto-none

pub loop-j-preserved : goal.loop-j-preserved
loop-j-preserved c =
    upto-more c.loop-j.invariant
    (adds-some (slice_get-get_or c.args.text.now c.loop-j.j 0 (omega arith)) c.in_ok-wire_character.ensures)

pub returns : goal.returns
returns c = upto-all c.loop-j.invariant (omega arith)
