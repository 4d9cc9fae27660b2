use Rattle.chart_rules.specs.HelperOrder.{in_order}
use Rattle.fault_chart_words.specs.HelperLists.{faults_at_end}
use Rattle.fault_chart_words.proofs.listing.add_end.Goals as goal

pub returns : goal.returns
unfolding faults_at_end in_order
returns c = c.add_lacking.ensures
