use Rattle.std.proofs.Common.{sym, true≢false, ◌∙◌}
use Rattle.match_plans.proofs.Planned.{plan-wired}
use Rattle.match_plans.proofs.Steps.{if-ok}
use Rattle.match_plans.proofs.plan.planned.Goals as goal

pub returns-then-serves-clause-kept : goal.returns-then-serves-clause-kept
returns-then-serves-clause-kept c = λ other its shows same.
    plan-wired c.args.chart.now.lines other its c.in_ok-plan.plan shows.wired (c.in_ok-plan.ensures.counters ∙ same)
    (c.in_ok-plan.ensures.parts ∙ c.requires.parts ∙ sym shows.wired.planned.parts) (c.in_ok-plan.ensures.numbers other its shows)

pub returns-else-serves-clause-kept : goal.returns-else-serves-clause-kept
returns-else-serves-clause-kept c =
    if-ok c.near.result _ _
    (λ near planned other its shows same.
    let shown = plan-wired c.args.chart.now.lines other its c.in_ok-plan.plan shows.wired (c.in_ok-plan.ensures.counters ∙ same)
    (c.in_ok-plan.ensures.parts ∙ c.requires.parts ∙ sym shows.wired.planned.parts) (c.in_ok-plan.ensures.numbers other its shows) in
    absurd (true≢false (sym (c.if-serves.ensures.1 shown.planned))))
    c.near.ensures
