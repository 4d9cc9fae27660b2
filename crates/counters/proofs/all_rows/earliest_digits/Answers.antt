use Rattle.std.proofs.Common.{◌≤◌, ℕ, arith, take}
use Rattle.std.proofs.lemmas.List.{length-take-le}
use Rattle.std.proofs.lemmas.Simd.{Each1-weaker}
use Rattle.counters.proofs.SetLanes.{first_sets-small, lanes-earliest, narrow-low, places-low}
use Rattle.counters.proofs.all_rows.earliest_digits.Goals as goal

pub overflow_cast-places : goal.overflow_cast-places
overflow_cast-places c =
    Each1-weaker (λ (n : ℕ). n ≤ 9) _ (λ n low. record { fits = omega (arith, low) }) _
    (places-low 8 (take 8 c.args.sets.now) (first_sets-small 8 c.args.sets.now (λ i. (c.type_inv.sets i).fits)))

pub overflow_cast-result : goal.overflow_cast-result
overflow_cast-result c =
    Each1-weaker (λ (n : ℕ). n ≤ 9) _ (λ n low. record { fits = omega (arith, low) }) _
    (narrow-low _ (places-low 8 (take 8 c.args.sets.now) (first_sets-small 8 c.args.sets.now (λ i. (c.type_inv.sets i).fits))))

pub returns : goal.returns
returns c =
    lanes-earliest (take 8 c.args.sets.now) 8 (length-take-le 8 c.args.sets.now c.requires)
    (first_sets-small 8 c.args.sets.now (λ i. (c.type_inv.sets i).fits))
