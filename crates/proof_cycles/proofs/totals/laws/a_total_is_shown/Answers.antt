use Rattle.proof_cycles.proofs.TotalsWords.GroupEnds.{total_shows}
use Rattle.proof_cycles.proofs.totals.laws.a_total_is_shown.Goals as goal

pub returns : goal.returns
returns c = total_shows
