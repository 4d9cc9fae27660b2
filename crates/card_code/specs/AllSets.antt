-- Tests of all numbers of so many bits.
use Rattle.std.specs.Prelude.{◌≡◌, ℕ, zero, suc, ◌+◌, ◌*◌, ◌/◌, ◌^◌, ◌%◌, ◌<◌, ◌&&◌, Bool, true}
use Rattle.std.proofs.Common.{arith, refl, ap, ◌∙◌}
use Rattle.std.proofs.Math.Nat.{pow-suc}
use Rattle.std.proofs.lemmas.Bool.{and_parts}

-- whether all numbers of so many bits pass a test
unfoldable pub passes_all : ℕ → (ℕ → Bool) → Bool
passes_all zero test = test 0
passes_all (suc bits) test = passes_all bits (λ n. test (2 * n)) && passes_all bits (λ n. test (2 * n + 1))

-- then each passes
pub passes-at : (bits : ℕ) (test : ℕ → Bool) (n : ℕ) → passes_all bits test ≡ true → n < 2 ^ bits → test n ≡ true
unfolding passes_all
passes-at zero test n all small = let none : n ≡ 0 = omega (arith, small) in ap test none ∙ all
passes-at (suc bits) test n all small =
    let both = and_parts (passes_all bits (λ k. test (2 * k))) (passes_all bits (λ k. test (2 * k + 1))) all in
    let power = pow-suc 2 bits in
    let half : n / 2 < 2 ^ bits = omega (arith, small, power) in
    by (n % 2) refl (passes-at bits (λ k. test (2 * k)) (n / 2) both.0 half) (passes-at bits (λ k. test (2 * k + 1)) (n / 2) both.1 half)
  where
    by : (rest : ℕ) → n % 2 ≡ rest → test (2 * (n / 2)) ≡ true → test (2 * (n / 2) + 1) ≡ true → test n ≡ true
    by zero is even odd = let same : n ≡ 2 * (n / 2) = omega (arith, is) in ap test same ∙ even
    by (suc zero) is even odd = let same : n ≡ 2 * (n / 2) + 1 = omega (arith, is) in ap test same ∙ odd
    by (suc (suc rest)) is even odd = absurd (omega (arith, is))
