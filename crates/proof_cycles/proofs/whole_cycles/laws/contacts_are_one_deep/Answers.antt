use Rattle.proof_cycles.proofs.WholeCycles.Contacts.{contacts-one_deep}
use Rattle.proof_cycles.proofs.whole_cycles.laws.contacts_are_one_deep.Goals as goal

pub returns : goal.returns
returns c = contacts-one_deep
