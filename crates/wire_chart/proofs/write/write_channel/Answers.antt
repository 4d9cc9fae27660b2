use Rattle.std.proofs.Common.{arith}
use Rattle.std.specs.String.{string_bytes}
use Rattle.wire_chart.proofs.StopGains.{no_lines, line_more, all_lines}
use Rattle.wire_chart.proofs.write.write_channel.Goals as goal

pub loop-line-init : goal.loop-line-init
loop-line-init c = no_lines c.args.tape.now c.args.channel (string_bytes c.args.text.now) c.requires.form

pub loop-line-preserved : goal.loop-line-preserved
loop-line-preserved c =
    line_more c.args.tape.now c.args.channel c.loop-line.line (string_bytes c.args.text.now) (string_bytes c.loop-line.text)
    (string_bytes c.write_stop.new.text) c.loop-line.invariant c.in_ok-write_stop.ensures

pub returns : goal.returns
returns c =
    all_lines c.args.tape.now c.args.channel c.loop-line.line (string_bytes c.args.text.now) (string_bytes c.loop-line.text)
    c.requires.form (omega (arith, c.lines-line-end.ensures.value, c.loop-line-test.false)) c.loop-line.invariant
