use Rattle.std.proofs.Common.{arith}
use Rattle.wiring_lines.proofs.LineWires.Steps.{upto-all, upto-more, upto-none}
use Rattle.wiring_totals.proofs.total.wire_feedback.Goals as goal

pub loop-place-init : goal.loop-place-init
loop-place-init c = upto-none

pub loop-place-preserved : goal.loop-place-preserved
loop-place-preserved c = upto-more c.loop-place.invariant c.in_ok-connect.ensures

pub returns : goal.returns
returns c = upto-all c.loop-place.invariant (omega arith)
