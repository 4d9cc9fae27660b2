use Rattle.net.proofs.ImpulsedLaws.{impulsed_least}
use Rattle.net.proofs.laws.impulsed_hubs_are_the_least_set.Goals as goal

pub returns : goal.returns
returns c = impulsed_least
