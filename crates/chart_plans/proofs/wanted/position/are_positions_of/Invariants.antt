use Rattle.chart_plans.specs.WantedWords.Positions.{field_used, positions_for}
use Rattle.chart_plans.proofs.WantedWords.Reading.{IsReadTo}
use Rattle.chart_plans.proofs.wanted.position.are_positions_of.Given as goal

abbrev pub invariant-loop-line : goal.invariant-loop-line
invariant-loop-line l = IsReadTo (λ line. positions_for line.number (field_used l.chart.lines l.columns line.statement)) l.lines l.list l.rest l.line-index
