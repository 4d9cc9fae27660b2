use Rattle.std.proofs.Common.{◌≡◌, ◌∙◌, ◌+◌, ◌∷◌, ◌++◌, [], ap, sym, subst, arith}
use Rattle.std.specs.List.{range_with_len}
use Rattle.chart_plans.proofs.PlansWords.Numbers.{first-more, first-numbers}
use Rattle.chart_plans.specs.PlansWords.PartNumbers.{AreThere}
use Rattle.chart_plans.proofs.plans.part_numbers.first_numbers.Goals as goal

pub loop-place-preserved : goal.loop-place-preserved
loop-place-preserved c =
    let next : c.loop-place.place + 1 ≡ 1 + c.loop-place.place = omega arith in
    c.in_ok-push.ensures.items ∙ ap (λ list. list ++ (c.loop-place.place + 1) ∷ []) c.loop-place.invariant
    ∙ ap (λ n. range_with_len 1 c.loop-place.place ++ n ∷ []) next ∙ sym (first-more 1 c.loop-place.place)

pub returns-clause-there : goal.returns-clause-there
returns-clause-there c =
    subst (AreThere c.args.last) (sym c.loop-place.invariant)
    (first-numbers c.args.last c.loop-place.place (omega (arith, c.loop-place.auto.place-end, c.requires.few))).there
