use Rattle.selectors.proofs.LawLemmas.{are_contacts}
use Rattle.selectors.proofs.laws.closed_contacts_are_contacts.Goals as goal

pub returns : goal.returns
returns c = are_contacts
