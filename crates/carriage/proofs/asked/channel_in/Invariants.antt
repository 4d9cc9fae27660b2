use Rattle.std.proofs.Common.{◌≡◌, ◌+◌, ◌-◌}
use Rattle.hubs.specs.declared.hub.Hub.TheVariants.{SP}
use Rattle.net.specs.HubSets.{is_in_row}
use Rattle.carriage.specs.Asked.{lowest_from}
use Rattle.carriage.proofs.asked.channel_in.Given as goal

-- the lowest channel is the lowest one of those that are left
abbrev pub invariant-loop-channel : goal.invariant-loop-channel
invariant-loop-channel l =
    lowest_from 1 l.channels (is_in_row (SP 2) l.hubs) ≡ lowest_from l.channel (l.channels + 1 - l.channel) (is_in_row (SP 2) l.hubs)
