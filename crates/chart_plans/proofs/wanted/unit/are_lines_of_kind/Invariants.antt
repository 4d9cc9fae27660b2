use Rattle.std.proofs.Common.{[], ◌∷◌, cond}
use Rattle.chart_plans.specs.WantedWords.Units.{is_of_kind}
use Rattle.chart_plans.proofs.WantedWords.Reading.{IsReadTo}
use Rattle.chart_plans.proofs.wanted.unit.are_lines_of_kind.Given as goal

abbrev pub invariant-loop-line : goal.invariant-loop-line
invariant-loop-line l = IsReadTo (λ line. cond (is_of_kind l.chart.lines l.kind line.statement) (line.number ∷ []) []) l.lines l.list l.rest l.line-index
