use Rattle.proof_cycles.proofs.TotalsWords.Cards.{card_goes}
use Rattle.proof_cycles.proofs.totals.laws.a_card_goes_in.Goals as goal

pub returns : goal.returns
returns c = card_goes
