use Rattle.machine_sets.proofs.BitSets.PassLemmas.{IsPassedOn-all, IsPassedOn-start, IsPassedOn-then}
use Rattle.machine_sets.proofs.bit_sets.passing.pass_on.Goals as goal

pub loop-at-init : goal.loop-at-init
loop-at-init c = IsPassedOn-start c.args.rows.now c.args.runs.now c.args.closed.now c.args.words.now 0

pub loop-at-preserved : goal.loop-at-preserved
loop-at-preserved c =
    IsPassedOn-then c.args.rows.now c.args.runs.now c.args.closed.now 0 c.loop-at.at _ c.args.words.now c.loop-at.words
    c.pass_eight-has_passed.new.words c.loop-at.has_passed c.pass_eight-has_passed.result c.loop-at.invariant c.pass_eight-has_passed.ensures

pub returns : goal.returns
returns c =
    IsPassedOn-all c.args.rows.now c.args.runs.now c.args.closed.now c.loop-at.at c.args.words.now c.loop-at.words c.loop-at.has_passed
    c.loop-at-test.false c.loop-at.invariant
