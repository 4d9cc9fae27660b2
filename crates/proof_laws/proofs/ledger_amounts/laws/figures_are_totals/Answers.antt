use Rattle.proof_laws.proofs.LedgerAmounts.TotalFigures.{figures-totals}
use Rattle.proof_laws.proofs.ledger_amounts.laws.figures_are_totals.Goals as goal

pub returns : goal.returns
returns c = figures-totals
