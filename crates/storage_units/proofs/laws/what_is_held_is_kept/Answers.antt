use Rattle.storage_units.proofs.CycleLemmas.{keeps_held}
use Rattle.storage_units.proofs.laws.what_is_held_is_kept.Goals as goal

pub returns : goal.returns
returns c = keeps_held
