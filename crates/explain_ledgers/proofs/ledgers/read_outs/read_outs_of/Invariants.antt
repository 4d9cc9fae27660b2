use Rattle.explain_ledgers.proofs.LedgersWords.CycleReadOuts.{NotesTo}
use Rattle.explain_ledgers.proofs.ledgers.read_outs.read_outs_of.Given as goal

-- the groups so far are noted
abbrev pub invariant-loop-place : goal.invariant-loop-place
invariant-loop-place l = NotesTo l.groups l.place l.read_outs
