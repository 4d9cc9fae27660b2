use Rattle.std.specs.String.{string_bytes}
use Rattle.wire_chart.proofs.StopGains.{no_channels, channel_more, all_channels}
use Rattle.wire_chart.proofs.write.write_stops.Goals as goal

pub loop-channel-init : goal.loop-channel-init
loop-channel-init c = no_channels c.args.tape.now (string_bytes c.args.text.now) c.requires.form

pub loop-channel-preserved : goal.loop-channel-preserved
loop-channel-preserved c =
    channel_more c.args.tape.now c.loop-channel.channel (string_bytes c.args.text.now) (string_bytes c.loop-channel.text)
    (string_bytes c.write_channel.new.text) c.loop-channel.invariant c.in_ok-write_channel.ensures

pub returns : goal.returns
returns c =
    all_channels c.args.tape.now c.loop-channel.channel (string_bytes c.args.text.now) (string_bytes c.loop-channel.text)
    c.requires.form c.loop-channel-test.false c.loop-channel.invariant
