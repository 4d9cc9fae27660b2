use Rattle.std.proofs.Common.{refl}
use Rattle.print_unit.proofs.Sets.{runs-none, runs-more}
use Rattle.print_unit.proofs.line.receive_runs.Goals as goal

pub loop-run-init : goal.loop-run-init
loop-run-init c = record { brought = runs-none c.args.columns.now c.args.sets.now; bits = c.told-sets }

pub loop-run-preserved : goal.loop-run-preserved
loop-run-preserved c = record {
  brought =
      runs-more c.args.columns.now c.args.sets.now c.loop-run.sets c.receive.new.sets c.args.runs.now c.loop-run.run-index _ _ c.loop-run-test.true
      refl c.told-columns c.loop-run.invariant.brought c.receive.ensures.received;
  bits = c.receive.ensures.bits;
}
