use Rattle.proof_laws.proofs.HoleLaws.Impulses.{holes-impulse}
use Rattle.proof_laws.proofs.hole_laws.law.holes_impulse_entries.Goals as goal

pub returns : goal.returns
returns c = holes-impulse
