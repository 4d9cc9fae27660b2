use Rattle.explain_ledgers.proofs.LedgersWords.Whole.{ledgers-tell}
use Rattle.explain_ledgers.proofs.ledgers.laws.ledgers_tell_numbers.Goals as goal

pub returns : goal.returns
returns c = ledgers-tell
