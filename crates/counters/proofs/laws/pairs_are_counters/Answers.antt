use Rattle.counters.proofs.Pairs.{ended-pair}
use Rattle.counters.proofs.laws.pairs_are_counters.Goals as goal

pub returns : goal.returns
returns c = ended-pair
