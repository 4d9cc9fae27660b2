use Rattle.std.proofs.Common.{arith}
use Rattle.wiring_lines.proofs.JacksAndTape.Plugging.{plugs-one, ranged-all, ranged-more, ranged-none}
use Rattle.wiring_lines.proofs.jacks_and_tape.panel_jacks.plug_heads.Goals as goal

pub loop-heading-init : goal.loop-heading-init
loop-heading-init c = (omega arith, c.requires.0, ranged-none (omega arith))

pub loop-heading-preserved : goal.loop-heading-preserved
loop-heading-preserved c = (
  omega (arith, c.loop-heading.invariant.0),
  omega (arith, c.loop-heading-test.true),
  ranged-more c.loop-heading.invariant.0 c.loop-heading.invariant.2
      (plugs-one c.plug.ensures.plugged c.plug.ensures.wires c.plug.ensures.tape),
)

pub returns : goal.returns
returns c =
    ranged-all c.loop-heading.invariant.2 (omega (arith, c.loop-heading.invariant.1, c.loop-heading-test.false))
