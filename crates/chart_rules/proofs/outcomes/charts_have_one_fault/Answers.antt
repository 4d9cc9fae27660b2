use Rattle.chart_rules.proofs.OneFault.{charts_have_one_fault}
use Rattle.chart_rules.proofs.outcomes.charts_have_one_fault.Goals as goal

pub returns : goal.returns
returns c = charts_have_one_fault
