use Rattle.std.proofs.Common.{refl}
use Rattle.chart_text.proofs.LineSteps.{NumbersRise-empty, NumbersRise-form}
use Rattle.chart_text.proofs.read.take_line.Goals as goal

pub returns-in-Empty-default-clause-rising : goal.returns-in-Empty-default-clause-rising
returns-in-Empty-default-clause-rising c = NumbersRise-empty _ c.args.end.now c.args.number

pub returns-in_ok-take_said-in-Says-None-clause-rising : goal.returns-in_ok-take_said-in-Says-None-clause-rising
returns-in_ok-take_said-in-Says-None-clause-rising c =
    NumbersRise-form _ _ _ c.args.end.now c.args.number c.in-Says-None.is-1 refl c.in_ok-take_said-in-Says-None.ensures.lines
