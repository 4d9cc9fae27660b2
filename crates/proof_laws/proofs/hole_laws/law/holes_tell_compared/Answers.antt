use Rattle.proof_laws.proofs.HoleLaws.Differences.{holes-tell}
use Rattle.proof_laws.proofs.hole_laws.law.holes_tell_compared.Goals as goal

pub returns : goal.returns
returns c = holes-tell
