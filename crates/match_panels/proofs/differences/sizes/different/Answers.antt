use Rattle.std.proofs.Common.{arith}
use Rattle.match_panels.proofs.DifferencesWords.RowWires.{front-all, front-few, front-more}
use Rattle.match_panels.proofs.differences.sizes.different.Goals as goal

pub overflow_add-many : goal.overflow_add-many
overflow_add-many c =
    omega (arith, front-few c.args.numbers.now c.loop-place.place c.requires c.loop-place.invariant, c.new_at-many.ensures.few)

pub loop-place-preserved : goal.loop-place-preserved
loop-place-preserved c = front-more c.args.numbers.now c.loop-place-test.true c.loop-place.invariant c.new_at-many.ensures.many

pub returns-clause-few : goal.returns-clause-few
returns-clause-few c = front-few c.args.numbers.now c.loop-place.place c.requires c.loop-place.invariant
