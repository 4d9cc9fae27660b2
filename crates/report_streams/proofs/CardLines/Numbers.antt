-- Two cases of numbers.
use Rattle.std.proofs.Common.{◌≡◌, ◌≢◌, ℕ, zero, suc, ◌<◌, ◌≤◌, ◌⊎◌, inl, inr, refl, ap, arith}

-- a number is below another or not
pub below_or_not : (most n : ℕ) → (n < most) ⊎ (most ≤ n)
below_or_not zero n = inr (omega arith)
below_or_not (suc most) zero = inl (omega arith)
below_or_not (suc most) (suc n) = elim (below_or_not most n) [ inl less ↦ inl (omega arith) | inr more ↦ inr (omega arith) ]

-- a number is another or not
pub equal_or_not : (one other : ℕ) → (one ≡ other) ⊎ (one ≢ other)
equal_or_not zero zero = inl refl
equal_or_not zero (suc other) = inr (λ is. omega (arith, is))
equal_or_not (suc one) zero = inr (λ is. omega (arith, is))
equal_or_not (suc one) (suc other) = elim (equal_or_not one other) [
  | inl is ↦ inl (ap suc is)
  | inr differ ↦ inr (λ is. differ (omega (arith, is)))
]
