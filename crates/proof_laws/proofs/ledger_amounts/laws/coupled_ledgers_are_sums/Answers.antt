use Rattle.proof_laws.proofs.LedgerAmounts.CoupledSums.{coupled-entries-sums, coupled-ledgers-sums}
use Rattle.proof_laws.proofs.ledger_amounts.laws.coupled_ledgers_are_sums.Goals as goal

pub returns-clause-each : goal.returns-clause-each
returns-clause-each c = coupled-entries-sums

pub returns-clause-all : goal.returns-clause-all
returns-clause-all c = coupled-ledgers-sums
