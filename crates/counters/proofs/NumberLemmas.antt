-- The number that digits spell.
use Rattle.std.proofs.Common.{◌≡◌, ◌∙◌, sym, ap, ℕ, ◌+◌, ◌*◌, ◌^◌, ◌<◌, ◌≤◌, List, [], ◌∷◌, All, length, arith}
use Rattle.std.proofs.Math.Nat.{pow-succ', pow-le-pow_right, mul-le-mul_right}
use Rattle.std.proofs.lemmas.List.Elements.{All-tail}
use Rattle.std.specs.Int.Digits.{number_from_digits_after}
use Rattle.counters.specs.Laws.{IsDigit}
use Rattle.counters.specs.Numbers.{number}

-- a digit before others, in numbers
digit_small : (d x n : ℕ) → d ≤ 9 → n < x → d * x + n < 10 * x
digit_small d x n digit small = omega (arith, mul-le-mul_right x digit, small)

-- what digits spell is below the power of their count
pub number-lt : (ds : List ℕ) → All IsDigit ds → number ds < 10 ^ length ds
number-lt [] all = omega arith
number-lt (d ∷ ds) all = rw pow-succ' (digit_small d (10 ^ length ds) (number ds) (all 0 0 (omega arith)) (number-lt ds (All-tail IsDigit d ds all)))

-- what up to eight digits spell
pub number-small : (ds : List ℕ) → length ds ≤ 8 → All IsDigit ds → number ds < 100000000
number-small ds short all = omega (arith, number-lt ds all, pow-le-pow_right {n = 10} (omega arith) short)

-- digits after a number
shifted : (v d x n : ℕ) → (v * 10 + d) * x + n ≡ v * (10 * x) + (d * x + n)
shifted v d x n = omega arith

pub number-after : (v : ℕ) (ds : List ℕ) → number_from_digits_after 10 v ds ≡ v * 10 ^ length ds + number ds
number-after v [] = omega arith
number-after v (d ∷ ds) = number-after (v * 10 + d) ds ∙ shifted v d (10 ^ length ds) (number ds)
    ∙ ap (λ p. v * p + number (d ∷ ds)) (sym (pow-succ' 10 (length ds)))
