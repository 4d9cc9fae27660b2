use Rattle.std.proofs.Common.{◌≤◌, Contains, length, take}
use Rattle.match_panels.specs.DifferencesWords.Differences.{AreMany}
use Rattle.match_panels.proofs.differences.sizes.different.Given as goal

abbrev pub invariant-loop-place : goal.invariant-loop-place
invariant-loop-place l = AreMany (Contains (take l.place l.numbers)) l.many
