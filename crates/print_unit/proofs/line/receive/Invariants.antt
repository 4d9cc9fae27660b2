use Rattle.std.proofs.Common.{◌≡◌, length}
use Rattle.print_unit.specs.RowSets.{Receives}
use Rattle.print_unit.proofs.line.receive.Given as goal

-- the wheels so far have what they receive
abbrev pub invariant-loop-k : goal.invariant-loop-k
invariant-loop-k l = record { received : Receives l.first l.k l.received l.fn.sets l.sets; bits : length l.sets ≡ 128 }
