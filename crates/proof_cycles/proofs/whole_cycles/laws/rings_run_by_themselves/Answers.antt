use Rattle.proof_cycles.proofs.WholeCycles.RingRuns.{rings-run}
use Rattle.proof_cycles.proofs.whole_cycles.laws.rings_run_by_themselves.Goals as goal

pub returns : goal.returns
returns c = rings-run
