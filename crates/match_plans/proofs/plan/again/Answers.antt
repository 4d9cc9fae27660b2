use Rattle.std.proofs.Common.{◌∙◌}
use Rattle.match_plans.proofs.Planned.{planned-again}
use Rattle.match_plans.proofs.Steps.{if-all-ok}
use Rattle.match_plans.proofs.plan.again.Goals as goal

pub returns : goal.returns
returns c =
    if-all-ok c.with_counters.result _ _ _ _
    (λ plan counters parts numbers.
    planned-again c.args.chart.now.lines c.args.own.now plan c.requires c.with_counters.ensures.within (counters ∙ c.counters.ensures)
    parts numbers)
    c.with_counters.ensures.counters c.with_counters.ensures.parts c.with_counters.ensures.numbers
