use Rattle.print_unit.proofs.Sets.{without_lowest-smaller, takes-lowest, takes-all}
use Rattle.print_unit.proofs.line.take_row.Goals as goal

pub loop-left-smaller : goal.loop-left-smaller
loop-left-smaller c = without_lowest-smaller c.loop-left.left c.loop-left-test.true c.loop-left.auto.left-fits.fits

pub loop-left-preserved : goal.loop-left-preserved
loop-left-preserved c = takes-lowest c.args.word c.loop-left.left c.args.place c.args.sets.now c.loop-left.sets c.loop-left-test.true c.loop-left.auto.left-fits.fits c.requires c.loop-left.invariant

pub returns-clause-row : goal.returns-clause-row
returns-clause-row c = takes-all c.args.word c.loop-left.left c.args.place c.args.sets.now c.loop-left.sets c.loop-left-test.false c.loop-left.invariant
