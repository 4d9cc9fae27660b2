-- The top wheel of a group, by its number.
use Rattle.std.proofs.Common.{◌≡◌, ◌∙◌, refl, sym, ap, ℕ, ◌+◌, ◌*◌, ◌^◌, ◌<◌, ◌≤◌, ◌==◌, nat_le, List, [], ◌∷◌, length, All, arith, inl, inr}
use Rattle.std.proofs.lemmas.Bool.{cases_lt}
use Rattle.std.proofs.lemmas.Bool.Decides.{nat_tests}
use Rattle.std.proofs.lemmas.List.Elements.{All-head, All-tail}
use Rattle.std.proofs.Math.Nat.{mul-le-mul_right, pow-succ'}
use Rattle.counters.specs.Counters.{top_is_nine}
use Rattle.counters.specs.Laws.{IsDigit}
use Rattle.counters.specs.Numbers.{number}
use Rattle.counters.proofs.NumberLemmas.{number-lt}
use Rattle.proof_cycles.specs.TotalsWords.CounterCycles.Laws.{TopWheelsAtNine}

-- a digit before others is a 9 where the number is nine tenths of the power, or more
nine_tenths : (d x n : ℕ) → d ≤ 9 → n < x → (d == 9) ≡ nat_le (9 * (10 * x)) (10 * (d * x + n))
nine_tenths d x n small below = elim (cases_lt d 9) [
  | inl less ↦
      let most : d * x ≤ 8 * x = mul-le-mul_right x (omega (arith, less)) in
      let under : 10 * (d * x + n) < 9 * (10 * x) = omega (arith, most, below) in
      grind (arith, nat_tests, under, less)
  | inr other ↦
      let nine : d ≡ 9 = omega (arith, other, small) in
      let over : 9 * (10 * x) ≤ 10 * (d * x + n) = omega (arith, ap (λ k. k * x) nine) in
      grind (arith, nat_tests, over, nine)
]

pub top-nine : (ds : List ℕ) → All IsDigit ds → top_is_nine ds ≡ nat_le (9 * 10 ^ length ds) (10 * number ds)
top-nine [] all = refl
top-nine (d ∷ ds) all =
    nine_tenths d (10 ^ length ds) (number ds) (All-head IsDigit d ds all) (number-lt ds (All-tail IsDigit d ds all))
    ∙ ap (λ p. nat_le (9 * p) (10 * number (d ∷ ds))) (sym (pow-succ' 10 (length ds)))

pub tops : TopWheelsAtNine
tops counter is =
    top-nine counter.digits is.digits
    ∙ ap (λ n. nat_le (9 * 10 ^ n) (10 * number counter.digits)) is.positions
