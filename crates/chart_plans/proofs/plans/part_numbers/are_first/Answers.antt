use Rattle.std.proofs.Common.{arith, refl}
use Rattle.std.proofs.lemmas.Bool.{false≢true}
use Rattle.chart_plans.proofs.PlansWords.Numbers.{first-all, not-first, not-first-by-length}
use Rattle.chart_plans.proofs.plans.part_numbers.are_first.Goals as goal

pub returns-then-numbers-things : goal.returns-then-numbers-things
returns-then-numbers-things c = (
  (λ never. absurd (false≢true never)),
  (λ same. absurd (not-first-by-length c.args.numbers.now c.args.things c.if-numbers-things.true same)),
)

pub returns-then-from-place : goal.returns-then-from-place
returns-then-from-place c = (
  (λ never. absurd (false≢true never)),
  (λ same.
      absurd
      (not-first c.args.numbers.now c.args.things c.loop-place.place c.loop-place-test.true
      (λ is.
      let from = c.from.ensures in
      let other = c.if-from-place.true in
      omega (arith, from, other, is)) same)),
)

pub returns : goal.returns
returns c = (
  (λ yes.
      first-all c.args.numbers.now c.args.things c.loop-place.place c.if-numbers-things.false c.loop-place-test.false c.loop-place.invariant),
  (λ same. refl),
)
