use Rattle.std.proofs.Common.{arith}
use Rattle.wiring_lines.proofs.JacksAndTape.ChartJacks.{totals-all, totals-more, totals-none}
use Rattle.wiring_lines.proofs.jacks_and_tape.panel_jacks.plug_totals.Goals as goal

pub loop-level-init : goal.loop-level-init
loop-level-init c = (omega arith, totals-none)

pub loop-level-preserved : goal.loop-level-preserved
loop-level-preserved c = (omega (arith, c.loop-level-test.true), totals-more c.loop-level.invariant.1 c.plug_total.ensures)

pub returns : goal.returns
returns c = totals-all c.loop-level.invariant.1 (omega (arith, c.loop-level.invariant.0, c.loop-level-test.false))
