use Rattle.readback_panels.proofs.ChainsGained.{chains_then}
use Rattle.readback_panels.specs.Chains.{none}
use Rattle.readback_panels.proofs.chains.put_chains_at.Goals as goal

pub loop-total-init : goal.loop-total-init
loop-total-init c = none

pub loop-total-preserved : goal.loop-total-preserved
loop-total-preserved c =
    chains_then c.args.setup.now c.args.draft.now c.loop-total.draft c.loop-total.invariant c.in_ok-put_amount.ensures
