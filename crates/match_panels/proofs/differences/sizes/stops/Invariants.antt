use Rattle.std.proofs.Common.{◌≤◌, ◌*◌}
use Rattle.match_panels.specs.DifferencesWords.Differences.{AreMany}
use Rattle.match_panels.specs.DifferencesWords.HelperSizes.{StopBefore}
use Rattle.match_panels.proofs.differences.sizes.stops.Given as goal

abbrev pub invariant-loop-channel : goal.invariant-loop-channel
invariant-loop-channel l = AreMany (StopBefore l.tape l.channel) l.many × (l.many ≤ 145 * l.channel) × (l.channel ≤ 12)
