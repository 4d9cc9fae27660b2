use Rattle.std.proofs.Common.{◌≤◌}
use Rattle.match_panels.specs.DifferencesWords.Differences.{AreMany}
use Rattle.match_panels.specs.DifferencesWords.HelperSizes.{JackBefore}
use Rattle.match_panels.proofs.differences.sizes.jacks.Given as goal

abbrev pub invariant-loop-place : goal.invariant-loop-place
invariant-loop-place l = AreMany (JackBefore l.setup l.place) l.many × (l.many ≤ l.place) × (l.place ≤ 368)
