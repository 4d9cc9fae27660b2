use Rattle.allocate.specs.Exceeded.{in_order}
use Rattle.fault_lists.proofs.capacity_faults.exceeded.capacity_faults.Goals as goal

pub returns : goal.returns
unfolding in_order
returns c = c.faults_among.ensures
