use Rattle.std.proofs.Common.{◌≡◌}
use Rattle.carriage.specs.Moves.{down_by}
use Rattle.carriage.proofs.spot.Spot.down_by.Given as goal

-- so far it has gone down by as many lines as the loop has counted
abbrev pub invariant-loop-line : goal.invariant-loop-line
invariant-loop-line l = l.self ≡ down_by l.tape l._line l.fn.self
