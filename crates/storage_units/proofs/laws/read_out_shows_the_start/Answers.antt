use Rattle.storage_units.proofs.CycleLemmas.{reads_out_start}
use Rattle.storage_units.proofs.laws.read_out_shows_the_start.Goals as goal

pub returns : goal.returns
returns c = reads_out_start
