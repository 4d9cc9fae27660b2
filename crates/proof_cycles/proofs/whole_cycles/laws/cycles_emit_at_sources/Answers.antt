use Rattle.proof_cycles.proofs.WholeCycles.Sources.{emit_at_sources}
use Rattle.proof_cycles.proofs.whole_cycles.laws.cycles_emit_at_sources.Goals as goal

pub returns : goal.returns
returns c = emit_at_sources
