use Rattle.selectors.proofs.LawLemmas.{pilots_stand}
use Rattle.selectors.proofs.laws.pilots_stand_through_a_cycle.Goals as goal

pub returns : goal.returns
returns c = pilots_stand
