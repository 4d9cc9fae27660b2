use Rattle.std.proofs.Common.{arith}
use Rattle.wiring_lines.proofs.LineWires.Steps.{upto-all, upto-more, upto-none}
use Rattle.wiring_lines.proofs.line_wires.detail.wire_indicated.Goals as goal

pub loop-j-init : goal.loop-j-init
loop-j-init c = upto-none

pub loop-j-preserved : goal.loop-j-preserved
loop-j-preserved c = upto-more c.loop-j.invariant c.in_ok-wire_indicated_column.ensures

pub returns : goal.returns
returns c = upto-all c.loop-j.invariant (omega arith)
