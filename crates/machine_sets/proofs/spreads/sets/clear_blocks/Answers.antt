use Rattle.std.proofs.Common.{arith}
use Rattle.machine_sets.proofs.BitSets.BitLemmas.{taken_lower}
use Rattle.machine_sets.proofs.SpreadsWords.Cleared.{cleared-touched}
use Rattle.machine_sets.proofs.spreads.sets.clear_blocks.Goals as goal

pub loop-left-preserved : goal.loop-left-preserved
loop-left-preserved c =
    cleared-touched c.loop-left.left c.loop-left.sets c.clear_block.new.sets (omega arith) c.loop-left.auto.left-fits.fits c.loop-left.invariant
    c.clear_block.ensures.long c.clear_block.ensures.rows

pub loop-left-smaller : goal.loop-left-smaller
loop-left-smaller c = taken_lower c.loop-left.left (omega arith) c.loop-left.auto.left-fits.fits
