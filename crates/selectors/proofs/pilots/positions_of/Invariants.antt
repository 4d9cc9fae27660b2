use Rattle.selectors.proofs.PositionLemmas.{HasPositions}
use Rattle.selectors.proofs.pilots.positions_of.Given as goal

-- the row has the positions of the pilots that are no longer left
abbrev pub invariant-loop-left : goal.invariant-loop-left
invariant-loop-left l = HasPositions l.pilots l.left l.row

-- each turn leaves fewer
abbrev pub decreases-loop-left : goal.decreases-loop-left
decreases-loop-left l = l.left
