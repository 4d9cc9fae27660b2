use Rattle.std.proofs.Common.{◌∙◌, ap}
use Rattle.chart_rules.proofs.DigitCounts.{told}
use Rattle.chart_rules.specs.ValidCard.{digit_count, digit_rows}
use Rattle.chart_rules.proofs.card.digit_count.Goals as goal

pub returns-then-digits-eq0 : goal.returns-then-digits-eq0
returns-then-digits-eq0 c =
    (told c.set-digits.result c.set-digits.ensures.small).none c.if-digits-eq0.true ∙ ap digit_count c.set-digits.ensures.value

pub returns-then-digits-eq0-2 : goal.returns-then-digits-eq0-2
returns-then-digits-eq0-2 c =
    (told c.set-digits.result c.set-digits.ensures.small).one c.if-digits-eq0.false c.if-digits-eq0-2.true
    ∙ ap digit_count c.set-digits.ensures.value

pub returns-else-digits-eq0-2 : goal.returns-else-digits-eq0-2
unfolding digit_count digit_rows
returns-else-digits-eq0-2 c = c.punched_among.ensures
