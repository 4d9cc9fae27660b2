use Rattle.hubs.specs.SetupsWords.Tapes.{AddsStop}
use Rattle.std.proofs.Common.{OnOk, arith, get_or, subst}
use Rattle.wiring_lines.proofs.JacksAndTape.TapeStops.{punches-all, punches-more, punches-none}
use Rattle.wiring_lines.proofs.jacks_and_tape.chart_tape.punch_channel.Goals as goal

pub loop-line-init : goal.loop-line-init
loop-line-init c = punches-none c.args.channel c.args.stops.now

pub loop-line-preserved : goal.loop-line-preserved
loop-line-preserved c =
    punches-more c.args.channel c.loop-line.line-index c.args.stops.now (omega (arith, c.loop-line-test.true)) c.loop-line.invariant
    (subst (λ r. OnOk r (AddsStop c.loop-line.tape c.punch.new.self c.args.channel (get_or c.args.stops.now c.loop-line.line-index 0)))
    c.unwrap.ensures c.punch.ensures.stops)

pub returns : goal.returns
returns c = punches-all c.args.channel c.loop-line.line-index c.args.stops.now c.loop-line.invariant (omega arith)
