use Rattle.allocate.proofs.OneFault.{charts_exceed_one_capacity}
use Rattle.allocate.proofs.laws.charts_exceed_one_capacity.Goals as goal

pub returns : goal.returns
returns c = charts_exceed_one_capacity
