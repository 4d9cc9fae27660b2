use Rattle.std.proofs.Common.{◌≢◌, ◌<◌, ◌≤◌, ◌-◌, ℕ, length, slice_index}
use Rattle.report_streams.proofs.card_lines.front.first_line_feed.Given as goal

-- no LF was passed
abbrev pub invariant-loop-passed : goal.invariant-loop-passed
invariant-loop-passed l = record {
  within : l.passed ≤ length l.front;
  before : (place : ℕ) → place < l.passed → slice_index l.front place ≢ 10;
}

abbrev pub decreases-loop-passed : goal.decreases-loop-passed
decreases-loop-passed l = length l.front - l.passed

abbrev pub invariant-loop-passed-2 : goal.invariant-loop-passed-2
invariant-loop-passed-2 l = (place : ℕ) → place < l.passed → slice_index l.front place ≢ 10

abbrev pub decreases-loop-passed-2 : goal.decreases-loop-passed-2
decreases-loop-passed-2 l = length l.front - l.passed
