use Rattle.std.proofs.Common.{sym, true≢false, ◌∙◌}
use Rattle.match_panels.proofs.DifferencesWords.Counting.{jack-none, jack-one}
use Rattle.match_panels.proofs.differences.sizes.jacks_at.Goals as goal

pub returns-in-Some-clause-many : goal.returns-in-Some-clause-many
returns-in-Some-clause-many c =
    jack-one c.args.setup.now c.in-Some.jack c.in-Some.ensures.placed c.in-Some.ensures.found (sym c.if-has_jack.ensures)

pub returns-in_default-clause-many : goal.returns-in_default-clause-many
returns-in_default-clause-many c =
    jack-none c.args.setup.now c.in-Some.jack c.in-Some.ensures.found (λ has. true≢false (sym has ∙ sym c.if-has_jack.ensures))
