use Rattle.explain_origins.proofs.Carriage.{carriage-told}
use Rattle.explain_origins.proofs.laws.carriage_is_asked_as_told.Goals as goal

pub returns : goal.returns
returns c = carriage-told
