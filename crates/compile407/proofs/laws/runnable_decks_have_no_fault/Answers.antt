use Rattle.compile407.proofs.Exclusions.{runnable_decks_have_no_fault}
use Rattle.compile407.proofs.laws.runnable_decks_have_no_fault.Goals as goal

pub returns : goal.returns
returns c = runnable_decks_have_no_fault
