use Rattle.readback_panels.specs.Chains.{GainsChain}
use Rattle.readback_panels.proofs.chains.put_chain.Given as goal

abbrev pub invariant-loop : goal.invariant-loop
invariant-loop l = GainsChain l.setup l.field l.fn.lowest l.last l.fn.draft l.draft
