use Rattle.proof_laws.proofs.LedgerAmounts.Found.{totals-found}
use Rattle.proof_laws.proofs.ledger_amounts.laws.totals_are_found.Goals as goal

pub returns : goal.returns
returns c = totals-found
