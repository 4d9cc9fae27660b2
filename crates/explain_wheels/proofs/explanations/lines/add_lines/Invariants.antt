use Rattle.explain_wheels.specs.ExplanationsWords.LineFeeds.{AreFoundTo}
use Rattle.explain_wheels.proofs.explanations.lines.add_lines.Given as goal

-- the lines so far are found
abbrev pub invariant-loop-place : goal.invariant-loop-place
invariant-loop-place l = AreFoundTo l.setup l.cards l.lines l.place l.found.items
