use Rattle.storage_units.proofs.CycleLemmas.{reads_in_whole}
use Rattle.storage_units.proofs.laws.read_in_is_held_whole.Goals as goal

pub returns : goal.returns
returns c = reads_in_whole
