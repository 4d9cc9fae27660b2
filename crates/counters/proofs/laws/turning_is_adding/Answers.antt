use Rattle.counters.proofs.Sums.{turned-sum}
use Rattle.counters.proofs.laws.turning_is_adding.Goals as goal

pub returns : goal.returns
returns c = turned-sum
