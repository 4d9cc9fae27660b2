use Rattle.std.proofs.Common.{◌+◌, ◌-◌, ◌∙◌, sym, arith}
use Rattle.hubs.specs.declared.hub.Hub.TheVariants.{SP}
use Rattle.net.specs.HubSets.{is_in_row}
use Rattle.carriage.proofs.AskedSteps.{is_in_row-SK, lowest_from-others, lowest_from-found}
use Rattle.carriage.proofs.asked.channel_in.Goals as goal

pub returns-then-has_bit : goal.returns-then-has_bit
returns-then-has_bit c =
    let channel = c.loop-channel.channel in
    let channels = c.args.channels in
    let there = is_in_row-SK c.args.hubs channel c.loop-channel.auto.channel (omega arith) ∙ sym c.has_bit.ensures ∙ c.if-has_bit.true in
    sym (c.loop-channel.invariant
    ∙ lowest_from-found (is_in_row (SP 2) c.args.hubs) channel (channels + 1 - channel) (channels + 1 - (channel + 1)) (omega arith) there)

pub loop-channel-preserved : goal.loop-channel-preserved
loop-channel-preserved c =
    let channel = c.loop-channel.channel in
    let channels = c.args.channels in
    let none = is_in_row-SK c.args.hubs channel c.loop-channel.auto.channel (omega arith) ∙ sym c.has_bit.ensures ∙ c.if-has_bit.false in
    c.loop-channel.invariant
    ∙ lowest_from-others (is_in_row (SP 2) c.args.hubs) channel (channel + 1) (channels + 1 - channel) (channels + 1 - (channel + 1)) (omega arith) (omega arith) none
