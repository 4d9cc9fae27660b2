use Rattle.std.proofs.Common.{sym}
use Rattle.net.proofs.SetLemmas.{sets-nowhere}
use Rattle.net.proofs.row_sets.RowSets.insert_sets.Goals as goal

pub returns-in_default : goal.returns-in_default
returns-in_default c row hub = sets-nowhere c.args.first hub row c.args.sets.now c.args.self.now (sym c.in_default.ensures.value)
