use Rattle.std.proofs.Common.{◌≤◌}
use Rattle.match_panels.specs.DifferencesWords.Differences.{AreMany}
use Rattle.match_panels.specs.DifferencesWords.HelperSizes.{StopInBefore}
use Rattle.match_panels.proofs.differences.sizes.stops_in.Given as goal

abbrev pub invariant-loop-line : goal.invariant-loop-line
invariant-loop-line l = AreMany (StopInBefore l.tape l.channel l.line) l.many × (l.many ≤ l.line) × (l.line ≤ 145)
