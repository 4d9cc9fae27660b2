use Rattle.readback_panels.proofs.ChainsGained.{chains_then}
use Rattle.readback_panels.specs.Chains.{none}
use Rattle.readback_panels.proofs.chains.put_chains.Goals as goal

pub loop-level-init : goal.loop-level-init
loop-level-init c = none

pub loop-wheel-preserved : goal.loop-wheel-preserved
loop-wheel-preserved c =
    chains_then c.args.setup.now c.args.draft.now c.loop-wheel.draft c.loop-wheel.invariant c.in_ok-put_chains_at.ensures
