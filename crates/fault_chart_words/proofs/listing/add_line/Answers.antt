use Rattle.chart_rules.specs.HelperOrder.{in_order}
use Rattle.fault_chart_words.specs.HelperLists.{faults_at}
use Rattle.fault_chart_words.proofs.listing.add_line.Goals as goal

pub returns : goal.returns
unfolding faults_at in_order
returns c = c.add_broken.ensures
