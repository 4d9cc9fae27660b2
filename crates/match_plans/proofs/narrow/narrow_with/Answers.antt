use Rattle.std.proofs.Common.{arith, subst, sym, ◌∙◌}
use Rattle.std.proofs.lemmas.Bool.{false≢true}
use Rattle.capacity.specs.declared.group.CounterGroup.{CounterGroup}
use Rattle.match_plans.specs.Groups.{group_with}
use Rattle.match_plans.specs.Narrow.{IsNarrow}
use Rattle.match_plans.proofs.TooNarrow.{none_narrow}
use Rattle.match_plans.proofs.Shown.{none-more}
use Rattle.match_plans.proofs.narrow.narrow_with.Goals as goal

pub loop-place-init : goal.loop-place-init
loop-place-init c = λ p less. absurd (omega (arith, less))

pub loop-place-preserved : goal.loop-place-preserved
loop-place-preserved c =
    none-more {P = λ p. ¬ IsNarrow c.args.setup.now c.args.units.level c.args.units.wheel c.args.units.need (group_with p)} c.loop-place.invariant
    (λ is. false≢true (sym c.if-is_narrow.false ∙ c.is_narrow.ensures.1
    (subst (λ (g : CounterGroup). IsNarrow c.args.setup.now c.args.units.level c.args.units.wheel c.args.units.need g)
    (sym c.standard_group-group.ensures.value) is)))

pub returns-clause-none : goal.returns-clause-none
returns-clause-none c =
    none_narrow c.args.setup.now c.args.units.level c.args.units.wheel c.args.units.need c.loop-place-test.false c.loop-place.invariant
