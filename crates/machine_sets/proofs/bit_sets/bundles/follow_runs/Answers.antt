use Rattle.machine_sets.proofs.BitSets.BundleLemmas.{follows_more, follows_last}
use Rattle.machine_sets.proofs.bit_sets.bundles.follow_runs.Goals as goal

pub loop-run-preserved : goal.loop-run-preserved
loop-run-preserved c k =
    follows_more c.args.new.now c.args.runs.now _ _ k _ _ _ c.loop-run-test.true (c.loop-run.invariant k)
    (c.follow_run.ensures k)

pub returns : goal.returns
returns c k = follows_last c.args.new.now c.args.runs.now _ k _ _ c.loop-run-test.false (c.loop-run.invariant k)
