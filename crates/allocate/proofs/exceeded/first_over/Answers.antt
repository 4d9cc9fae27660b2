use Rattle.allocate.specs.Exceeded.{in_order}
use Rattle.allocate.proofs.Order.{IfNone-fits, IfSome-first}
use Rattle.allocate.proofs.exceeded.first_over.Goals as goal

pub returns-clause-none : goal.returns-clause-none
unfolding in_order
returns-clause-none c = IfNone-fits c.args.wanted.now c.args.profile.now c.first_among.result c.first_among.ensures.none

pub returns-clause-some : goal.returns-clause-some
unfolding in_order
returns-clause-some c = IfSome-first c.args.wanted.now c.args.profile.now c.first_among.result c.first_among.ensures.some
