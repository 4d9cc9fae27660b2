use Rattle.proof_cycles.proofs.TotalsWords.Passing.{have_room}
use Rattle.proof_cycles.proofs.totals.laws.groups_have_room.Goals as goal

pub returns : goal.returns
returns c = have_room
