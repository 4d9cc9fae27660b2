-- The next lower total's level, and the sums after the end of a group.
use Rattle.std.proofs.Common.{◌≡◌, refl, sym, ap, ℕ, zero, suc, ◌≤◌, ◌<◌, ◌==◌, nat_le, Bool, true, false, ℤ, pos, if◌then◌else◌, arith}
use Rattle.std.proofs.lemmas.Bool.Decides.{nat_tests}
use Rattle.proof_cycles.specs.TotalsWords.Amounts.{lower}
use Rattle.proof_cycles.specs.TotalsWords.Sums.{sum_at, cleared}

-- the next lower level isn't higher
pub lower_le : (has : ℕ → Bool) (level : ℕ) → lower has level ≤ level
lower_le has zero = omega arith
lower_le has (suc level) = by (has level) (lower_le has level)
  where
    by : (b : Bool) → lower has level ≤ level → (if b then level else lower has level) ≤ suc level
    by true less = omega arith
    by false less = omega (arith, less)

-- the next lower level of a level is below it
pub lower_less : (has : ℕ → Bool) (level : ℕ) → 1 ≤ level → lower has level < level
lower_less has zero some = absurd (omega (arith, some))
lower_less has (suc level) some = by (has level) (lower_le has level)
  where
    by : (b : Bool) → lower has level ≤ level → (if b then level else lower has level) < suc level
    by true less = omega arith
    by false less = omega (arith, less)

-- a next lower level has a total
pub lower_has : (has : ℕ → Bool) (level : ℕ) → 1 ≤ lower has level → has (lower has level) ≡ true
lower_has has zero some = absurd (omega (arith, some))
lower_has has (suc level) some = by (has level) refl (lower_has has level) some
  where
    by : (b : Bool) → has level ≡ b → (1 ≤ lower has level → has (lower has level) ≡ true)
        → 1 ≤ (if b then level else lower has level) → has (if b then level else lower has level) ≡ true
    by true here more some = here
    by false here more some = more some

-- the sum of an ended level is cleared
pub cleared_low : (ended : ℕ) (sum : ℕ → ℤ) (level : ℕ) → level ≤ ended → cleared ended sum level ≡ pos 0
cleared_low ended sum level low =
    let is : nat_le level ended ≡ true = grind (arith, nat_tests, low) in
    ap (λ b. if b then pos 0 else sum level) is

pub sum_at-cleared : (ended : ℕ) (sum : ℕ → ℤ) (level : ℕ) → level ≤ ended → sum_at (cleared ended sum) level ≡ pos 0
sum_at-cleared ended sum zero low = refl
sum_at-cleared ended sum (suc level) low = cleared_low ended sum (suc level) low

-- where the lower levels have ended before, clearing leaves the sum of each level but the ended one
pub cleared_other : (ended : ℕ) (sum : ℕ → ℤ) (level : ℕ) → ((low : ℕ) → 1 ≤ low → low < ended → sum low ≡ pos 0)
    → 1 ≤ level → (ended == level) ≡ false → cleared ended sum level ≡ sum level
cleared_other ended sum level before some apart = by (nat_le level ended) refl
  where
    by : (b : Bool) → nat_le level ended ≡ b → (if b then pos 0 else sum level) ≡ sum level
    by true is =
        let less : level < ended = grind (arith, nat_tests, is, apart) in
        sym (before level some less)
    by false is = refl

pub sum_at-other : (ended : ℕ) (sum : ℕ → ℤ) (level : ℕ) → ((low : ℕ) → 1 ≤ low → low < ended → sum low ≡ pos 0)
    → (level == ended) ≡ false → sum_at (cleared ended sum) level ≡ sum_at sum level
sum_at-other ended sum zero before apart = refl
sum_at-other ended sum (suc level) before apart =
    let apart' : (ended == suc level) ≡ false = grind (arith, nat_tests, apart) in
    cleared_other ended sum (suc level) before (omega arith) apart'
