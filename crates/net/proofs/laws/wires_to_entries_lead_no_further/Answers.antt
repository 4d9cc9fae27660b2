use Rattle.net.proofs.ImpulsedLaws.{impulsed_fed}
use Rattle.net.proofs.laws.wires_to_entries_lead_no_further.Goals as goal

pub returns : goal.returns
returns c = impulsed_fed
