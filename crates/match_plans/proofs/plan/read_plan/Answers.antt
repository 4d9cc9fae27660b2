use Rattle.std.proofs.Common.{subst, ◌≡◌}
use Rattle.std.specs.Option.{IsSomeAnd}
use Rattle.match_plans.proofs.Alike.{own-parts}
use Rattle.match_plans.proofs.Steps.{if-ok}
use Rattle.match_plans.proofs.plan.read_plan.Goals as goal

pub returns-in-Some-clause-found : goal.returns-in-Some-clause-found
returns-in-Some-clause-found c =
    if-ok c.planned.result _ _
    (λ plan kept its wired.
    let shows = own-parts c.args.chart.now.lines c.args.setup.now its wired in
    kept c.args.setup.now its shows
    (subst (λ o. IsSomeAnd o (λ list. list.items ≡ its.counters)) c.in-Some.is (c.in_ok-counters.ensures c.args.setup.now its shows)))
    c.planned.ensures.kept

pub returns-in-Some-clause-shown : goal.returns-in-Some-clause-shown
returns-in-Some-clause-shown c =
    if-ok c.planned.result _ _
    (λ plan kept other its shows.
    kept other its shows
    (subst (λ o. IsSomeAnd o (λ list. list.items ≡ its.counters)) c.in-Some.is (c.in_ok-counters.ensures other its shows)))
    c.planned.ensures.kept

pub returns-in-None-clause-found : goal.returns-in-None-clause-found
returns-in-None-clause-found c =
    if-ok c.near_plan.result _ _
    (λ plan planned its wired.
    absurd
    (subst (λ o. IsSomeAnd o (λ list. list.items ≡ its.counters)) c.in-None.is
    (c.in_ok-counters.ensures c.args.setup.now its (own-parts c.args.chart.now.lines c.args.setup.now its wired))))
    c.near_plan.ensures

pub returns-in-None-clause-shown : goal.returns-in-None-clause-shown
returns-in-None-clause-shown c =
    if-ok c.near_plan.result _ _
    (λ plan planned other its shows.
    absurd (subst (λ o. IsSomeAnd o (λ list. list.items ≡ its.counters)) c.in-None.is (c.in_ok-counters.ensures other its shows)))
    c.near_plan.ensures
