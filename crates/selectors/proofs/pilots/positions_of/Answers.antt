use Rattle.std.proofs.Common.{ℕ, ◌*◌, ◌<◌, arith}
use Rattle.net.proofs.Below.machine_sets.BitSets.BitLemmas.{taken_lower}
use Rattle.selectors.proofs.PositionLemmas.{lowest-left, positions-all, positions-more, positions-none}
use Rattle.selectors.proofs.pilots.positions_of.Goals as goal

pub loop-left-init : goal.loop-left-init
loop-left-init c = positions-none c.args.pilots c.from-left.result c.from-left.ensures c.ranges.pilots.fits

pub loop-left-smaller : goal.loop-left-smaller
loop-left-smaller c =
    let some = c.loop-left-test.true in taken_lower c.loop-left.left (omega (arith, some)) c.loop-left.auto.left-fits.fits

pub overflow_shl-row : goal.overflow_shl-row
overflow_shl-row c =
    within _ (lowest-left c.args.pilots c.loop-left.left c.loop-left.row c.loop-left-test.true c.loop-left.invariant).0
  where
    within : (place : ℕ) → place < 16 → 3 * place < 128
    within place low = omega (arith, low)

pub loop-left-preserved : goal.loop-left-preserved
loop-left-preserved c = positions-more c.args.pilots c.loop-left.left c.loop-left.row c.loop-left-test.true c.loop-left.invariant

pub returns-clause-value : goal.returns-clause-value
returns-clause-value c = positions-all c.args.pilots c.loop-left.left c.loop-left.row c.loop-left-test.false c.loop-left.invariant

pub returns-clause-below : goal.returns-clause-below
returns-clause-below c = c.loop-left.invariant.small
