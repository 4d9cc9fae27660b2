use Rattle.readback_panels.specs.Chains.{GainsChains}
use Rattle.readback_panels.proofs.chains.put_chains.Given as goal

abbrev pub invariant-loop-level : goal.invariant-loop-level
invariant-loop-level l = GainsChains l.setup l.fn.draft l.draft

abbrev pub invariant-loop-wheel : goal.invariant-loop-wheel
invariant-loop-wheel l = GainsChains l.setup l.fn.draft l.draft
