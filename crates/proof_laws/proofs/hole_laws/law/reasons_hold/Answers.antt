use Rattle.proof_laws.proofs.HoleLaws.Reasons.{reasons-hold}
use Rattle.proof_laws.proofs.hole_laws.law.reasons_hold.Goals as goal

pub returns : goal.returns
returns c = reasons-hold
