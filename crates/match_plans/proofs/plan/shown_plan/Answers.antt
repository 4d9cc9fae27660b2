use Rattle.std.proofs.Common.{subst, sym}
use Rattle.match_plans.specs.Renumbered.{with_numbers}
use Rattle.match_plans.specs.Wired.{IsWiredBy}
use Rattle.match_plans.proofs.plan.shown_plan.Goals as goal

pub returns-clause-numbers : goal.returns-clause-numbers
returns-clause-numbers c = λ other its shows.
    subst (λ n. IsWiredBy c.args.chart.now.lines other (with_numbers its n)) (sym c.of-2.ensures.numbers)
    (c.in_ok-numbers.ensures other its shows)
