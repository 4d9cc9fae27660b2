use Rattle.proof_laws.proofs.LedgerAmounts.Examples.{tell-digits}
use Rattle.proof_laws.proofs.ledger_amounts.laws.examples_tell_digits.Goals as goal

pub returns : goal.returns
returns c = tell-digits
