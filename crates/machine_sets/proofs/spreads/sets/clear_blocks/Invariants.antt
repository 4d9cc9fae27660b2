use Rattle.machine_sets.specs.SpreadsWords.Blocks.{AreTouched}
use Rattle.machine_sets.proofs.spreads.sets.clear_blocks.Given as goal

-- rows are in the blocks that are left alone
abbrev pub invariant-loop-left : goal.invariant-loop-left
invariant-loop-left l = AreTouched l.left l.sets

abbrev pub decreases-loop-left : goal.decreases-loop-left
decreases-loop-left l = l.left
