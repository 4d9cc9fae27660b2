use Rattle.chart_rules.proofs.OneFault.{cards_have_one_fault}
use Rattle.chart_rules.proofs.outcomes.cards_have_one_fault.Goals as goal

pub returns : goal.returns
returns c = cards_have_one_fault
