use Rattle.card_code.proofs.Punches.{AreCharacters}
use Rattle.card_code.proofs.card.odd_column.Given as goal

-- the bytes so far are deck characters
abbrev pub invariant-loop-place : goal.invariant-loop-place
invariant-loop-place l = AreCharacters 0 l.place l.line
