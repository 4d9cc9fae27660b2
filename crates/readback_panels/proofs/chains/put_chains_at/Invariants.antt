use Rattle.readback_panels.specs.Chains.{GainsChains}
use Rattle.readback_panels.proofs.chains.put_chains_at.Given as goal

abbrev pub invariant-loop-total : goal.invariant-loop-total
invariant-loop-total l = GainsChains l.setup l.fn.draft l.draft
