use Rattle.proof_cycles.proofs.WholeCycles.Carries.{carries-apart, carries-wait}
use Rattle.proof_cycles.proofs.whole_cycles.laws.carries_keep_apart.Goals as goal

pub returns-clause-apart : goal.returns-clause-apart
returns-clause-apart c = carries-apart

pub returns-clause-wait : goal.returns-clause-wait
returns-clause-wait c = carries-wait
