-- The lines so far are no more than there may be, and the text is too large where the rest after them is.
use Rattle.std.proofs.Common.{◌≡◌, ◌≤◌, length}
use Rattle.card_code.specs.Lines.{lines_of}
use Rattle.chart_lines.specs.TokensWords.FrameReading.{is_larger}
use Rattle.chart_lines.proofs.TokensWords.TextSize.{larger_after}
use Rattle.chart_lines.proofs.tokens.frame.is_larger.Given as goal

abbrev pub invariant-loop-line : goal.invariant-loop-line
invariant-loop-line l =
    (l.lines ≤ l.fn.most_lines)
    × (larger_after l.fn.most_lines l.fn.most_bytes l.lines (lines_of l.rest) ≡ is_larger l.fn.most_lines l.fn.most_bytes (lines_of l.text))

abbrev pub decreases-loop-line : goal.decreases-loop-line
decreases-loop-line l = length l.rest
