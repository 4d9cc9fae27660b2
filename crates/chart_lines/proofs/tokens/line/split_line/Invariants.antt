-- The tokens so far, before those of the rest, are those of the line; the rest begins with no space, and gets shorter.
use Rattle.std.proofs.Common.{length}
use Rattle.chart_lines.proofs.TokensWords.Dividing.{SplitsSoFar}
use Rattle.chart_lines.proofs.tokens.line.split_line.Given as goal

abbrev pub invariant-loop-rest : goal.invariant-loop-rest
invariant-loop-rest l = SplitsSoFar l.tokens.items l.rest l.line

abbrev pub decreases-loop-rest : goal.decreases-loop-rest
decreases-loop-rest l = length l.rest
