use Rattle.proof_laws.proofs.LedgerAmounts.Amounts.{kept-amounts, ledgers-amounts}
use Rattle.proof_laws.proofs.ledger_amounts.laws.ledgers_are_amounts.Goals as goal

pub returns-clause-all : goal.returns-clause-all
returns-clause-all c = ledgers-amounts

pub returns-clause-kept : goal.returns-clause-kept
returns-clause-kept c = kept-amounts
