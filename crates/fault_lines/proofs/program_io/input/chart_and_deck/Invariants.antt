use Rattle.std.proofs.Common.{◌≤◌, ◌-◌, length}
use Rattle.fault_lines.proofs.ProgramIo.Division.{DividesAfter}
use Rattle.fault_lines.proofs.program_io.input.chart_and_deck.Given as goal

abbrev pub invariant-loop-length : goal.invariant-loop-length
invariant-loop-length l = (l.taken ≤ length l.text) × DividesAfter l.text l.taken

abbrev pub decreases-loop-length : goal.decreases-loop-length
decreases-loop-length l = length l.text - l.taken
