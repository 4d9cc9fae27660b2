use Rattle.explain_origins.proofs.Standing.{cards-numbered}
use Rattle.explain_origins.proofs.laws.cards_are_numbered.Goals as goal

pub returns : goal.returns
returns c = cards-numbered
