use Rattle.std.proofs.Common.{ap, arith, length}
use Rattle.wiring_lines.proofs.LineWires.Steps.{line-there}
use Rattle.wiring_lines.proofs.JacksAndTape.ChartJacks.{jacks-all, jacks-more, jacks-none}
use Rattle.wiring_lines.proofs.jacks_and_tape.panel_jacks.plug_lines.Goals as goal

pub loop-line-init : goal.loop-line-init
loop-line-init c = jacks-none

pub plug_line-requires : goal.plug_line-requires
plug_line-requires c =
    c.requires c.loop-line.line-index c.line-item.result
    (line-there c.lines-line-items.ensures.value c.loop-line-test.true c.line-item.is)

pub loop-line-preserved : goal.loop-line-preserved
loop-line-preserved c =
    jacks-more (line-there c.lines-line-items.ensures.value c.loop-line-test.true c.line-item.is)
    c.loop-line.invariant c.plug_line.ensures

pub returns : goal.returns
returns c =
    let long = ap length c.lines-line-items.ensures.value in
    jacks-all c.loop-line.invariant (omega (arith, long))
