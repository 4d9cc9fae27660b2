use Rattle.hubs.specs.SetupsWords.Tapes.{HasStops}
use Rattle.std.proofs.Common.{[], arith, subst, ◌∙◌, ◌≡◌}
use Rattle.std.specs.Prelude.{IfOk}
use Rattle.wiring_lines.proofs.JacksAndTape.TapeStops.{channels-more, channels-none, stops-within, tape-whole}
use Rattle.wiring_lines.proofs.jacks_and_tape.chart_tape.punched_tape.Goals as goal

pub loop-channel-init : goal.loop-channel-init
loop-channel-init c = (omega arith, omega arith, channels-none)

pub punch_channel-requires-clause-stops : goal.punch_channel-requires-clause-stops
punch_channel-requires-clause-stops c =
    let long = subst (λ r. IfOk r (λ tape. tape.lines ≡ c.form_of-long.result.0)) c.unwrap-tape.ensures c.new.ensures.lines
    ∙ c.form_of-long.ensures.lines in
    stops-within c.args.lines.now c.loop-channel.channel c.loop-channel.tape.lines c.stops_of.result.now c.requires
    c.stops_of.ensures (c.loop-channel.invariant.2.lines ∙ long)

pub loop-channel-preserved : goal.loop-channel-preserved
loop-channel-preserved c = (
  omega (arith, c.loop-channel.invariant.0),
  omega (arith, c.loop-channel-test.true),
  channels-more c.args.lines.now c.loop-channel.channel c.stops_of.result.now _ _ _ c.loop-channel.invariant.0
      c.stops_of.ensures c.loop-channel.invariant.2 c.punch_channel.ensures,
)

pub returns : goal.returns
returns c =
    let long = subst (λ r. IfOk r (λ tape. tape.lines ≡ c.form_of-long.result.0)) c.unwrap-tape.ensures c.new.ensures.lines
    ∙ c.form_of-long.ensures.lines in
    let top = subst (λ r. IfOk r (λ tape. tape.first ≡ c.form_of-long.result.1)) c.unwrap-tape.ensures c.new.ensures.first
    ∙ c.form_of-long.ensures.first in
    let full = subst (λ r. IfOk r (λ tape. tape.overflow ≡ c.form_of-long.result.2)) c.unwrap-tape.ensures c.new.ensures.overflow
    ∙ c.form_of-long.ensures.overflow in
    let none = subst (λ r. IfOk r (λ tape. HasStops tape [])) c.unwrap-tape.ensures c.new.ensures.stops in
    tape-whole c.args.lines.now c.unwrap-tape.result c.loop-channel.tape c.loop-channel.channel c.requires long top full none
    c.loop-channel.invariant.2 (omega (arith, c.loop-channel.invariant.1, c.loop-channel-test.false))
