use Rattle.std.proofs.Common.{◌≡◌, length, take}
use Rattle.print_unit.specs.RowSets.{ReceivesRuns}
use Rattle.print_unit.proofs.line.receive_runs.Given as goal

-- the runs so far have brought rows
abbrev pub invariant-loop-run : goal.invariant-loop-run
invariant-loop-run l = record { brought : ReceivesRuns l.columns (take l.run-index l.runs) l.fn.sets l.sets; bits : length l.sets ≡ 128 }
