use Rattle.std.proofs.Common.{length}
use Rattle.chart_text.proofs.LineSteps.{ReadsSoFar}
use Rattle.chart_text.proofs.read.read_lines.Given as goal

abbrev pub invariant-loop-line : goal.invariant-loop-line
invariant-loop-line l = ReadsSoFar l.version l.lines.items l.coupled.items l.end l.number l.rest l.text

abbrev pub decreases-loop-line : goal.decreases-loop-line
decreases-loop-line l = length l.rest
