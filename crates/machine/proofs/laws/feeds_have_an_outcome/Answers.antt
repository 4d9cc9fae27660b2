use Rattle.machine.proofs.SomeOutcome.{FedLines-some}
use Rattle.machine.proofs.laws.feeds_have_an_outcome.Goals as goal

pub returns : goal.returns
returns c = FedLines-some
