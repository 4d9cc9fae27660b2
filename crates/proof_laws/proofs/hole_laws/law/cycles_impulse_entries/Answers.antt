use Rattle.proof_laws.proofs.HoleLaws.Asks.{cycles-impulse}
use Rattle.proof_laws.proofs.hole_laws.law.cycles_impulse_entries.Goals as goal

pub returns : goal.returns
returns c = cycles-impulse
