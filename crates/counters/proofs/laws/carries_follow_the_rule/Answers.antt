use Rattle.counters.proofs.Carries.{turned-rule, turned_round-rule}
use Rattle.counters.proofs.laws.carries_follow_the_rule.Goals as goal

pub returns-clause-group : goal.returns-clause-group
returns-clause-group c = turned-rule

pub returns-clause-ring : goal.returns-clause-ring
returns-clause-ring c = turned_round-rule
