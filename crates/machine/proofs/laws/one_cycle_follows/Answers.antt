use Rattle.machine.proofs.OneOutcome.{FeedStep-one}
use Rattle.machine.proofs.laws.one_cycle_follows.Goals as goal

pub returns : goal.returns
returns c = FeedStep-one
