use Rattle.std.proofs.Common.{arith, sym, ◌∙◌}
use Rattle.wiring_lines.proofs.JacksAndTape.Plugging.{plugs-as, plugs-one, ranged-all, ranged-more, ranged-none}
use Rattle.wiring_lines.proofs.jacks_and_tape.panel_jacks.plug_wheels.Goals as goal

pub loop-wheel-init : goal.loop-wheel-init
loop-wheel-init c = (omega arith, c.requires.order, ranged-none (omega arith))

pub loop-wheel-preserved : goal.loop-wheel-preserved
loop-wheel-preserved c = (
  omega (arith, c.loop-wheel.invariant.0),
  omega (arith, c.loop-wheel-test.true),
  ranged-more c.loop-wheel.invariant.0 c.loop-wheel.invariant.2
      (plugs-as (λ each is. is ∙ c.jack_of.ensures.value) (λ each is. is ∙ sym c.jack_of.ensures.value)
      (plugs-one c.plug.ensures.plugged c.plug.ensures.wires c.plug.ensures.tape)),
)

pub returns : goal.returns
returns c =
    ranged-all c.loop-wheel.invariant.2 (omega (arith, c.loop-wheel.invariant.1, c.loop-wheel-test.false))
