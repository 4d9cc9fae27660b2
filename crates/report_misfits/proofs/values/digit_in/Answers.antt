use Rattle.std.proofs.Common.{◌∙◌, ap}
use Rattle.report_definition.specs.Amounts.{digit_in}
use Rattle.report_misfits.proofs.Digits.{digit_read}
use Rattle.report_misfits.proofs.values.digit_in.Goals as goal

pub returns-then-digits-eq0 : goal.returns-then-digits-eq0
returns-then-digits-eq0 c = (digit_read c.set-digits.result c.set-digits.ensures.small).none c.if-digits-eq0.true ∙ ap digit_in c.set-digits.ensures.value

pub overflow_sub-result : goal.overflow_sub-result
overflow_sub-result c = ((digit_read c.set-digits.result c.set-digits.ensures.small).some c.if-digits-eq0.false).0

pub returns-else-digits-eq0 : goal.returns-else-digits-eq0
returns-else-digits-eq0 c =
    ((digit_read c.set-digits.result c.set-digits.ensures.small).some c.if-digits-eq0.false).1 ∙ ap digit_in c.set-digits.ensures.value
