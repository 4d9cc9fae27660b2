use Rattle.std.proofs.Common.{◌∙◌, ap, arith, inl, inr, refl, ℕ}
use Rattle.std.proofs.lemmas.Bool.{cases_eq, false≢true}
use Rattle.machine_served.specs.ServedRuns.Course.{served_in}
use Rattle.machine_served.proofs.served_runs.course.Course.is_over.Goals as goal

pub loop-unit-preserved : goal.loop-unit-preserved
loop-unit-preserved c unit from to = elim (cases_eq unit c.loop-unit.unit) [
  | inl is ↦ ap (λ (u : ℕ). (served_in c.args.self.now).places u) is ∙ c.if-self-unit-ne14.false
  | inr other ↦ c.loop-unit.invariant unit from (omega (arith, to, other))
]

pub returns-then-self-unit-ne14 : goal.returns-then-self-unit-ne14
returns-then-self-unit-ne14 c = (
  λ on. absurd (false≢true on),
  λ over. absurd (c.if-self-unit-ne14.true (over c.loop-unit.unit (c.loop-unit.auto.unit, c.loop-unit-test.true))),
)

pub returns : goal.returns
returns c = (λ on unit is. c.loop-unit.invariant unit is.0 (omega (arith, is.1)), λ over. refl)
