use Rattle.chart_rules.specs.HelperOrder.{in_order}
use Rattle.chart_rules.proofs.InOrder.{IfNone-lawful, IfSome-first}
use Rattle.chart_rules.proofs.checking.first_broken.Goals as goal

pub returns-clause-none : goal.returns-clause-none
unfolding in_order
returns-clause-none c = IfNone-lawful c.args.raw.now c.first_among.result c.first_among.ensures.none

pub returns-clause-some : goal.returns-clause-some
unfolding in_order
returns-clause-some c = IfSome-first c.args.raw.now c.first_among.result c.first_among.ensures.some
