use Rattle.std.proofs.Common.{arith, ◌∙◌}
use Rattle.wiring_lines.proofs.JacksAndTape.KeptTape.{has-tape}
use Rattle.wiring_lines.proofs.JacksAndTape.TapeLines.{channel-range, stops-of-line}
use Rattle.wiring_lines.proofs.JacksAndTape.TapeStops.{stops-within}
use Rattle.wiring_lines.proofs.jacks_and_tape.of_line.line_tape.Goals as goal

pub overflow_cast-channel : goal.overflow_cast-channel
overflow_cast-channel c =
    let range =
    channel-range c.args.chart.now c.lines-lines.ensures.lawful c.args.line.now c.in-Tape.channel c.in-Tape.stops c.requires c.in-Tape.is in
    omega (arith, range.1)

pub punch_channel-requires-clause-channel : goal.punch_channel-requires-clause-channel
punch_channel-requires-clause-channel c =
    channel-range c.args.chart.now c.lines-lines.ensures.lawful c.args.line.now c.in-Tape.channel c.in-Tape.stops c.requires c.in-Tape.is

pub punch_channel-requires-clause-stops : goal.punch_channel-requires-clause-stops
punch_channel-requires-clause-stops c =
    stops-within c.args.chart.now.lines c.in-Tape.channel c.bare_tape-tape.result.lines c.lines.result.now
    (has-tape c.args.chart.now c.lines-lines.ensures.lawful)
    (c.lines.ensures.value
    ∙ stops-of-line c.args.chart.now c.lines-lines.ensures.lawful c.args.line.now c.in-Tape.channel c.in-Tape.stops c.requires c.in-Tape.is)
    c.bare_tape-tape.ensures.lines
