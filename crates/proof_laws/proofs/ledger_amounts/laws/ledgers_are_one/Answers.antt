use Rattle.proof_laws.proofs.LedgerAmounts.OneLedger.{kept-one, ledgers-one, places-have}
use Rattle.proof_laws.proofs.ledger_amounts.laws.ledgers_are_one.Goals as goal

pub returns-clause-some : goal.returns-clause-some
returns-clause-some c = places-have

pub returns-clause-one : goal.returns-clause-one
returns-clause-one c = ledgers-one

pub returns-clause-kept : goal.returns-clause-kept
returns-clause-kept c = kept-one
