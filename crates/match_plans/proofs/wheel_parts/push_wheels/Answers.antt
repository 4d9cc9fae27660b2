use Rattle.std.proofs.Common.{◌+◌, ◌++◌, ◌∷◌, [], ap, sym, ◌∙◌, append_assoc}
use Rattle.std.specs.List.{range_with_len}
use Rattle.chart_plans.proofs.PlansWords.Numbers.{first-more}
use Rattle.match_plans.proofs.wheel_parts.push_wheels.Goals as goal

pub loop-place-preserved : goal.loop-place-preserved
loop-place-preserved c =
    c.in_ok-push.ensures.items
    ∙ ap (λ start. c.loop-place.wheels.items ++ (start + c.loop-place.place) ∷ []) c.from-start.ensures
    ∙ ap (λ items. items ++ (c.args.wheel + c.loop-place.place) ∷ []) c.loop-place.invariant
    ∙ append_assoc c.args.wheels.now.items (range_with_len c.args.wheel c.loop-place.place) ((c.args.wheel + c.loop-place.place) ∷ [])
    ∙ ap (λ more. c.args.wheels.now.items ++ more) (sym (first-more c.args.wheel c.loop-place.place))
