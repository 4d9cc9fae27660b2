use Rattle.std.proofs.Common.{arith}
use Rattle.wiring_lines.proofs.LineWires.Steps.{adds-both, upto-all, upto-more, upto-none}
use Rattle.wiring_totals.proofs.total_text.wire_stored.Goals as goal

pub loop-j-init : goal.loop-j-init
loop-j-init c = upto-none

pub loop-j-preserved : goal.loop-j-preserved
loop-j-preserved c = upto-more c.loop-j.invariant (adds-both c.in_ok-connect.ensures c.in_ok-connect-2.ensures)

pub returns : goal.returns
returns c = upto-all c.loop-j.invariant (omega arith)
