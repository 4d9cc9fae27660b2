use Rattle.std.proofs.Common.{◌≡◌, ◌∙◌, ap, arith, slice_index, suc, zero, ℕ, ◌+◌}
use Rattle.card_code.specs.CardCode.{rows_of}
use Rattle.card_code.proofs.card.listed_sets.Goals as goal

pub returns-clause-rows : goal.returns-clause-rows
returns-clause-rows c zero low =
    let same : c.args.first ≡ c.args.first + 0 = omega arith in
    c.listed_set.ensures ∙ ap (λ (j : ℕ). rows_of (slice_index c.args.line.now j)) same
returns-clause-rows c (suc zero) low = c.listed_set-2.ensures
returns-clause-rows c (suc (suc zero)) low = c.listed_set-3.ensures
returns-clause-rows c (suc (suc (suc zero))) low = c.listed_set-4.ensures
returns-clause-rows c (suc (suc (suc (suc zero)))) low = c.listed_set-5.ensures
returns-clause-rows c (suc (suc (suc (suc (suc zero))))) low = c.listed_set-6.ensures
returns-clause-rows c (suc (suc (suc (suc (suc (suc zero)))))) low = c.listed_set-7.ensures
returns-clause-rows c (suc (suc (suc (suc (suc (suc (suc zero))))))) low = c.listed_set-8.ensures
returns-clause-rows c (suc (suc (suc (suc (suc (suc (suc (suc k)))))))) low = absurd (omega (arith, low))
