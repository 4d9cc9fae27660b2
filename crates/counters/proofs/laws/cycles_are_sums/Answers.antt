use Rattle.counters.proofs.Cycles.{ended-left, ended-sum}
use Rattle.counters.proofs.laws.cycles_are_sums.Goals as goal

pub returns-clause-sum : goal.returns-clause-sum
returns-clause-sum c = ended-sum

pub returns-clause-left : goal.returns-clause-left
returns-clause-left c = ended-left
