use Rattle.proof_laws.proofs.LedgerAmounts.Changes.{ledgers-hold, ledgers-hold-no-others, ledgers-rise}
use Rattle.proof_laws.proofs.ledger_amounts.laws.ledgers_hold_all_changes.Goals as goal

pub returns-clause-all : goal.returns-clause-all
returns-clause-all c = ledgers-hold

pub returns-clause-others : goal.returns-clause-others
returns-clause-others c = ledgers-hold-no-others

pub returns-clause-once : goal.returns-clause-once
returns-clause-once c = ledgers-rise
