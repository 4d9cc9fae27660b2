use Rattle.net.proofs.TellingLemmas.{AreTellingsTo}
use Rattle.net.proofs.tellings.tellings_of.Given as goal

-- so many exits have what they tell
abbrev pub invariant-loop-place : goal.invariant-loop-place
invariant-loop-place l = AreTellingsTo l.rows l.place l.tellings.items
