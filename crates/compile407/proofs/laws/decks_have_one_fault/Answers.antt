use Rattle.compile407.proofs.OneFault.{decks_have_one_fault}
use Rattle.compile407.proofs.laws.decks_have_one_fault.Goals as goal

pub returns : goal.returns
returns c = decks_have_one_fault
