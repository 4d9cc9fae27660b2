use Rattle.explain_origins.proofs.Leaving.{latches-tested}
use Rattle.explain_origins.proofs.laws.latches_are_tested.Goals as goal

pub returns : goal.returns
returns c = latches-tested
