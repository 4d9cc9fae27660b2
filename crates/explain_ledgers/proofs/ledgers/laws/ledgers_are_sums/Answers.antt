use Rattle.explain_ledgers.proofs.LedgersWords.Turns.{turns-enter}
use Rattle.explain_ledgers.proofs.LedgersWords.Whole.{entries-sums, ledgers-sums}
use Rattle.explain_ledgers.proofs.ledgers.laws.ledgers_are_sums.Goals as goal

pub returns-clause-each : goal.returns-clause-each
returns-clause-each c = entries-sums

pub returns-clause-all : goal.returns-clause-all
returns-clause-all c = ledgers-sums

pub returns-clause-turned : goal.returns-clause-turned
returns-clause-turned c = turns-enter
