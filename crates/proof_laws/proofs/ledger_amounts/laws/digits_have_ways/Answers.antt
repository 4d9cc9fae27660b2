use Rattle.proof_laws.proofs.LedgerAmounts.DigitWays.{digits-have}
use Rattle.proof_laws.proofs.LedgerAmounts.RowLines.{entries-rows}
use Rattle.proof_laws.proofs.ledger_amounts.laws.digits_have_ways.Goals as goal

pub returns-clause-told : goal.returns-clause-told
returns-clause-told c = digits-have c.ways_tell_digits.ensures

pub returns-clause-lines : goal.returns-clause-lines
returns-clause-lines c = entries-rows (digits-have c.ways_tell_digits.ensures)
