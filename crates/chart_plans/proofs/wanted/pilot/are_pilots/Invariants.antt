use Rattle.std.proofs.Common.{[], ◌∷◌, cond}
use Rattle.chart_plans.specs.WantedWords.Pilots.{wants_pilot}
use Rattle.chart_plans.proofs.WantedWords.Reading.{IsReadTo}
use Rattle.chart_plans.proofs.wanted.pilot.are_pilots.Given as goal

abbrev pub invariant-loop-field : goal.invariant-loop-field
invariant-loop-field l = IsReadTo (λ field. cond (wants_pilot l.chart.lines field) (field.name ∷ []) []) l.fields l.list l.rest l.field-index
