use Rattle.std.proofs.Common.{◌∙◌, sym}
use Rattle.machine_sets.proofs.BitSets.BundleLemmas.{any_more, any_found, any_last}
use Rattle.machine_sets.proofs.bit_sets.bundles.is_in_runs.Goals as goal

pub loop-run-preserved : goal.loop-run-preserved
loop-run-preserved c =
    any_more c.args.runs.now c.loop-run.run-index _ c.args.from c.args.to _ c.loop-run-test.true c.loop-run.invariant
    (sym c.is_in_run.ensures ∙ c.if-is_in_run.false)

pub returns-then-is_in_run : goal.returns-then-is_in_run
returns-then-is_in_run c =
    any_found c.args.runs.now c.loop-run.run-index _ c.args.from c.args.to _ c.loop-run-test.true c.loop-run.invariant
    (sym c.is_in_run.ensures ∙ c.if-is_in_run.true)

pub returns : goal.returns
returns c = any_last c.args.runs.now _ c.args.from c.args.to _ c.loop-run-test.false c.loop-run.invariant
