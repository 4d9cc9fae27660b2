use Rattle.std.proofs.Common.{◌∙◌, sym, inl, inr, arith}
use Rattle.std.proofs.lemmas.Bool.{cases_eq, eq-eqb, eqb-true, false≢true}
use Rattle.machine_served.proofs.served.service.names_all.Goals as goal
use Rattle.machine_served.specs.ServedWords.Units.{IsUnit}

pub returns-then-not-contains : goal.returns-then-not-contains
returns-then-not-contains c = (
  λ no. absurd (false≢true no),
  λ names.
      let range : IsUnit 45 c.loop-unit.unit-counter = (c.loop-unit.auto.unit-counter, c.loop-unit-test.true) in
      let found = names c.loop-unit.unit-counter range in
      absurd (false≢true (sym ((c.if-not-contains.ensures {u = tt}).cases found.0 c.loop-unit.unit-counter (omega arith) found.1)
      ∙ eq-eqb _ _ found.2)),
)

pub loop-unit-preserved : goal.loop-unit-preserved
loop-unit-preserved c unit from to = elim (cases_eq unit c.loop-unit.unit-counter) [
  | inl same ↦
      let found = (c.if-not-contains.ensures {u = tt}).cases in
      (found.0, found.1, eqb-true _ _ (found.2 unit) ∙ sym same)
  | inr other ↦ c.loop-unit.invariant unit from (omega (arith, to, other))
]
