use Rattle.chart_plans.proofs.plans.assignment.are_own.Goals as goal

pub returns-then-are_there : goal.returns-then-are_there
returns-then-are_there c = (
  (λ yes. record { there = c.are_there.ensures.0 c.if-are_there.true; own = c.are_single.ensures.0 yes }),
  (λ own. c.are_single.ensures.1 own.own),
)
