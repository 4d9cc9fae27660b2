use Rattle.allocate.proofs.Exclusions.{fitting_charts_have_no_fault}
use Rattle.allocate.proofs.laws.fitting_charts_have_no_fault.Goals as goal

pub returns : goal.returns
returns c = fitting_charts_have_no_fault
