use Rattle.compile407.proofs.OneFault.{charts_have_one_fault}
use Rattle.compile407.proofs.laws.charts_have_one_fault.Goals as goal

pub returns : goal.returns
returns c = charts_have_one_fault
