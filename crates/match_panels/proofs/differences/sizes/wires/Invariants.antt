use Rattle.std.proofs.Common.{◌≤◌, ◌*◌}
use Rattle.match_panels.specs.DifferencesWords.Differences.{AreMany}
use Rattle.match_panels.specs.DifferencesWords.HelperSizes.{WireFromBefore}
use Rattle.match_panels.proofs.differences.sizes.wires.Given as goal

abbrev pub invariant-loop-number : goal.invariant-loop-number
invariant-loop-number l = AreMany (WireFromBefore l.setup l.number) l.many × (l.many ≤ 1937 * l.number) × (l.number ≤ 1041)
