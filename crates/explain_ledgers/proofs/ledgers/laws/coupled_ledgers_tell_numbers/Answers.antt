use Rattle.explain_ledgers.proofs.LedgersWords.Coupled.{coupled-tell}
use Rattle.explain_ledgers.proofs.ledgers.laws.coupled_ledgers_tell_numbers.Goals as goal

pub returns : goal.returns
returns c = coupled-tell
