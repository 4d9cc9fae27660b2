use Rattle.proof_cycles.proofs.TotalsWords.Cards.{zeros}
use Rattle.proof_cycles.proofs.totals.laws.zeros_stand.Goals as goal

pub returns : goal.returns
returns c = zeros
