use Rattle.std.proofs.Common.{◌≡◌, ◌++◌, map, take, drop}
use Rattle.explain_ledgers.specs.LedgersWords.SoughtLines.{noted}
use Rattle.explain_ledgers.proofs.ledgers.found.note_all.Given as goal

-- the cycle is noted at the lines so far
abbrev pub invariant-loop-line : goal.invariant-loop-line
invariant-loop-line l = l.sought ≡ map (noted l.one) (take l.line-index l.fn.sought) ++ drop l.line-index l.fn.sought
