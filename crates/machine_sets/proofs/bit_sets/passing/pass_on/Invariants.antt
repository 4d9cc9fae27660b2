use Rattle.std.proofs.Common.{◌-◌, length}
use Rattle.machine_sets.specs.BitSets.Passing.{IsPassedOn}
use Rattle.machine_sets.proofs.bit_sets.passing.pass_on.Given as goal

abbrev pub invariant-loop-at : goal.invariant-loop-at
invariant-loop-at l = IsPassedOn l.rows l.runs l.closed 0 l.at l.fn.words l.words l.has_passed

abbrev pub decreases-loop-at : goal.decreases-loop-at
decreases-loop-at l = length l.runs - l.at
