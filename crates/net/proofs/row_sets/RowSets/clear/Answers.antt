use Rattle.hubs.specs.Hubs.{number_of}
use Rattle.net.proofs.SetLemmas.{empty-sets}
use Rattle.net.proofs.row_sets.RowSets.clear.Goals as goal

pub returns : goal.returns
returns c row hub = empty-sets c.clear.new.self c.clear.ensures row (number_of hub)
