use Rattle.std.proofs.Common.{◌≡◌, inl, inr, ap, ◌∙◌, Some, arith}
use Rattle.std.proofs.lemmas.Bool.{cases_lt}
use Rattle.hubs.proofs.SetupsWords.CarryJoins.{carry_number, carry_numbered}
use Rattle.hubs.proofs.setups.setup.Setup.stands_with_all.Goals as goal

pub loop-number-init : goal.loop-number-init
loop-number-init c group number is below = absurd (omega (arith, below, (carry_number group number is).0))

pub loop-number-preserved : goal.loop-number-preserved
loop-number-preserved c group number is below = elim (cases_lt number c.loop-number.number) [
  | inl lower ↦ c.loop-number.invariant group number is lower
  | inr here ↦
      let same : number ≡ c.loop-number.number = omega (arith, below, here) in
      c.stands_at.ensures.agrees c.if-not-stands_at.false group (is ∙ ap Some same)
]

pub returns-clause-agrees : goal.returns-clause-agrees
returns-clause-agrees c told group there =
    let number = carry_numbered group there in
    c.loop-number.invariant group number.0 number.1 (omega (arith, (carry_number group number.0 number.1).1, c.loop-number-test.false))
