use Rattle.counters.proofs.Rings.{pairs-coupled}
use Rattle.counters.proofs.laws.wired_pairs_are_coupled.Goals as goal

pub returns : goal.returns
returns c = pairs-coupled
