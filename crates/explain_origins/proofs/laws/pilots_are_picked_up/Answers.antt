use Rattle.explain_origins.proofs.Leaving.{pilots-picked-up}
use Rattle.explain_origins.proofs.laws.pilots_are_picked_up.Goals as goal

pub returns : goal.returns
returns c = pilots-picked-up
