use Rattle.std.proofs.Common.{sym}
use Rattle.chart_rules.proofs.DigitCounts.{told}
use Rattle.chart_rules.proofs.amounts.digit_lacks.Goals as goal

pub returns-then-one-eq0 : goal.returns-then-one-eq0
returns-then-one-eq0 c none blank = sym ((told c.args.one c.requires.one).none c.if-one-eq0.true)

pub returns-else-other-eq0 : goal.returns-else-other-eq0
returns-else-other-eq0 c none blank = absurd ((told c.args.other c.requires.other).some c.if-other-eq0.false blank)
