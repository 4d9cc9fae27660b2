use Rattle.std.proofs.Common.{ℕ, ◌+◌, ◌++◌, ◌∷◌, [], ap, map, ◌∙◌, append_assoc}
use Rattle.std.specs.List.{range_with_len}
use Rattle.match_plans.proofs.Comparing.{compared_in, columns-more}
use Rattle.match_plans.proofs.compared.push_columns.Goals as goal

pub loop-place-preserved : goal.loop-place-preserved
loop-place-preserved c =
    let so_far = map (λ (n : ℕ). compared_in n c.args.level) (range_with_len c.args.field.first c.loop-place.place) in
    c.in_ok-push.ensures.items
    ∙ ap (λ start. c.loop-place.columns.items ++ compared_in (start + c.loop-place.place) c.args.level ∷ []) c.from-start.ensures
    ∙ ap (λ items. items ++ compared_in (c.args.field.first + c.loop-place.place) c.args.level ∷ []) c.loop-place.invariant
    ∙ append_assoc c.args.columns.now.items so_far (compared_in (c.args.field.first + c.loop-place.place) c.args.level ∷ [])
    ∙ ap (λ more. c.args.columns.now.items ++ more) (columns-more c.args.level c.args.field.first c.loop-place.place)
