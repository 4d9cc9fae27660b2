use Rattle.chart_plans.specs.WantedWords.Units.{is_of_kind}
use Rattle.chart_plans.proofs.WantedWords.WideTexts.{FirstIsLowest-lines}
use Rattle.chart_plans.proofs.wanted.unit.lines_of_kind.Goals as goal

pub returns-clause-lowest : goal.returns-clause-lowest
returns-clause-lowest c =
    rw c.in_ok-list.ensures
    (rw c.lines.ensures.value
    (FirstIsLowest-lines (λ line. is_of_kind c.args.chart.now.lines c.args.kind line.statement) c.args.chart.now.lines c.args.chart.now.end c.lines.ensures.rising))
