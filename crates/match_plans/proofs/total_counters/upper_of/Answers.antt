use Rattle.std.proofs.Common.{arith, subst, sym, true≢false}
use Rattle.match_plans.specs.Groups.{group_with}
use Rattle.match_plans.specs.Shown.{CarriesTo}
use Rattle.match_plans.proofs.Shown.{no-upper, none-more}
use Rattle.match_plans.proofs.total_counters.upper_of.Goals as goal

pub loop-place-init : goal.loop-place-init
loop-place-init c = λ p less. absurd (omega (arith, less))

pub loop-place-preserved : goal.loop-place-preserved
loop-place-preserved c =
    none-more {P = λ p. ¬ CarriesTo c.args.setup.now c.args.lower (group_with p)} c.loop-place.invariant
    (λ carries. true≢false (sym (c.if-carries_to.ensures.1
    (subst (CarriesTo c.args.setup.now c.args.lower) (sym c.standard_group-upper.ensures.value) carries))))

pub returns-clause-none : goal.returns-clause-none
returns-clause-none c = no-upper c.loop-place-test.false c.loop-place.invariant
