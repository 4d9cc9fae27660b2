use Rattle.proof_laws.proofs.LedgerAmounts.Examples.{add-up}
use Rattle.proof_laws.proofs.ledger_amounts.laws.examples_add_up.Goals as goal

pub returns : goal.returns
returns c = add-up
