use Rattle.explain_ledgers.proofs.LedgersWords.Places.{entries-tell, places-are-one}
use Rattle.explain_ledgers.proofs.ledgers.laws.entries_tell_cycles.Goals as goal

pub returns-clause-one : goal.returns-clause-one
returns-clause-one c = places-are-one

pub returns-clause-tell : goal.returns-clause-tell
returns-clause-tell c = entries-tell
