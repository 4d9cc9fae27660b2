use Rattle.std.proofs.Common.{ap, arith, length}
use Rattle.wiring_lines.proofs.LineWires.Steps.{adds-some, line-there, upto-all, upto-more, upto-none}
use Rattle.wire_gen.proofs.lines.wire_lines.Goals as goal

pub loop-line-init : goal.loop-line-init
loop-line-init c = upto-none

pub wire_line-requires : goal.wire_line-requires
wire_line-requires c =
    c.requires c.loop-line.line-index c.line-item.result
    (line-there c.lines-line-items.ensures.value c.loop-line-test.true c.line-item.is)

pub loop-line-preserved : goal.loop-line-preserved
loop-line-preserved c =
    upto-more c.loop-line.invariant
    (adds-some (line-there c.lines-line-items.ensures.value c.loop-line-test.true c.line-item.is)
    c.in_ok-wire_line.ensures)

pub returns : goal.returns
returns c =
    let long = ap length c.lines-line-items.ensures.value in
    upto-all c.loop-line.invariant (omega (arith, long))
