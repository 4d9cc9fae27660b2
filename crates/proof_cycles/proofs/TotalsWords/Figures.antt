-- What a test and a turn make of a total whose sum fits, and what its sign and size are worth.
use Rattle.std.proofs.Common.{◌≡◌, ◌∙◌, refl, sym, ap, ℕ, zero, suc, ◌+◌, ◌-◌, ◌*◌, ◌≤◌, ◌<◌, ◌==◌, nat_le, ◌⊎◌, inl, inr, Bool, true, false, ◌&&◌, ℤ, ◌+ℤ◌, pos, negsuc, if◌then◌else◌, arith, unsigned_abs}
use Rattle.std.specs.Int.{is_negative}
use Rattle.std.proofs.lemmas.Bool.{false≢true}
use Rattle.std.proofs.lemmas.Bool.Decides.{nat_tests}
use Rattle.std.proofs.lemmas.Int.{ints}
use Rattle.proof_cycles.specs.TotalsWords.CounterCycles.Acts.{number_after}
use Rattle.counters.specs.Numbers.{left_number}
use Rattle.proof_cycles.specs.TotalsWords.Amounts.{posted}
use Rattle.proof_cycles.specs.TotalsWords.Standing.{Stands}
use Rattle.proof_cycles.specs.TotalsWords.Sums.{signed}
use Rattle.proof_cycles.proofs.TotalsWords.Counting.{near, stands_plus, stands_minus}

-- a number from 0 on is not negative
pub not-negative : (number : ℕ) → is_negative (pos number) ≡ false
not-negative number = grind (arith, nat_tests)

-- The sign and the figure of a number that stands for a sum.
pub record IsFigured (power number : ℕ) (sum : ℤ) (negative : Bool) : Type 0 where
  pub figure : (if negative then left_number true power (power - 1 - number) else number) ≡ unsigned_abs sum
  pub below : is_negative sum ≡ true → negative ≡ true
  pub above : is_negative sum ≡ false → 1 ≤ unsigned_abs sum → negative ≡ false
  pub zero : unsigned_abs sum ≡ 0 → negative ≡ (number + 1 == power)

-- nothing is carried where a number is turned
turned : (power number : ℕ) → number < power → left_number true power (power - 1 - number) ≡ power - 1 - number
turned power number small =
    let is : nat_le power (power - 1 - number) ≡ false = grind (arith, nat_tests, small) in
    ap (λ b. if b then power - 1 - number - (power - 1) else power - 1 - number) is

figured_by : (test : Bool) (tenth power number : ℕ) (sum : ℤ) → nat_le (9 * power) (10 * number) ≡ test → power ≡ tenth * 10
    → unsigned_abs sum < tenth → number < power → (pos number ≡ sum) ⊎ (pos number ≡ sum +ℤ pos (power - 1))
    → IsFigured power number sum test
figured_by true tenth power number (pos n) is ten few small (inl same) =
    let high : 9 * power ≤ 10 * number = grind (arith, nat_tests, is) in absurd (omega (arith, ints, same, few, ten, high))
figured_by false tenth power number (pos n) is ten few small (inl same) = record {
  figure = omega (arith, ints, same);
  below = λ negative. absurd (false≢true (sym (not-negative n) ∙ negative));
  above = λ positive some. refl;
  zero = λ none.
      let apart : (number + 1 == power) ≡ false = by_size none in
      sym apart;
}
  where
    by_size : n ≡ 0 → (number + 1 == power) ≡ false
    by_size none =
        let nought : number ≡ 0 = omega (arith, ints, same, none) in
        grind (arith, nat_tests, nought, few, ten)
figured_by test tenth power number (negsuc n) is ten few small (inl same) = absurd (omega (arith, ints, same))
figured_by true tenth power number (pos n) is ten few small (inr same) =
    let nines : number + 1 ≡ power = omega (arith, ints, same, small, few, ten) in
    let none : n ≡ 0 = omega (arith, ints, same, small, few, ten) in
    let equal : (number + 1 == power) ≡ true = grind (arith, nat_tests, nines) in
    record {
      figure = turned power number small ∙ omega (arith, nines, none);
      below = λ negative. refl;
      above = λ positive some. absurd (omega (arith, none, some));
      zero = λ nought. sym equal;
    }
figured_by false tenth power number (pos n) is ten few small (inr same) =
    let low : 10 * number < 9 * power = grind (arith, nat_tests, is) in absurd (omega (arith, ints, same, few, ten, low))
figured_by true tenth power number (negsuc n) is ten few small (inr same) = record {
  figure = turned power number small ∙ omega (arith, ints, same, few, ten);
  below = λ negative. refl;
  above = λ positive some. absurd (false≢true (sym positive));
  zero = λ none. absurd (omega (arith, none));
}
figured_by false tenth power number (negsuc n) is ten few small (inr same) =
    let low : 10 * number < 9 * power = grind (arith, nat_tests, is) in absurd (omega (arith, ints, same, few, ten, low))

-- The test of a balance tells the sign of a sum that is below a tenth of the power, and the turn its size.
pub figured : (tenth power number : ℕ) (sum : ℤ) → power ≡ tenth * 10 → unsigned_abs sum < tenth → Stands true power sum number
    → IsFigured power number sum (nat_le (9 * power) (10 * number))
figured tenth power number sum ten few stands =
    let small = stands.small in
    figured_by (nat_le (9 * power) (10 * number)) tenth power number sum refl ten few small
    (near (power - 1) number stands.up stands.down sum (omega (arith, small)) (omega (arith, ten, few)) stands.same)

-- without a ring the number is the sum
pub plain_figure : (power number : ℕ) (sum : ℤ) → is_negative sum ≡ false → unsigned_abs sum < power → Stands false power sum number
    → number ≡ unsigned_abs sum
plain_figure power number (negsuc n) positive few stands = absurd (false≢true (sym positive))
plain_figure power number (pos n) positive few stands =
    let small = stands.small in
    by (near power number stands.up stands.down (pos n) (omega (arith, small)) few stands.same) small
  where
    by : (pos number ≡ pos n) ⊎ (pos number ≡ pos n +ℤ pos power) → number < power → number ≡ n
    by (inl same) small = omega (arith, ints, same)
    by (inr same) small = absurd (omega (arith, ints, same, small))

-- a sum is its size with its sign; a sum of 0 is 0 with either
pub signed-size : (negative : Bool) (sum : ℤ) → (is_negative sum ≡ true → negative ≡ true)
    → (is_negative sum ≡ false → 1 ≤ unsigned_abs sum → negative ≡ false) → signed negative (unsigned_abs sum) ≡ sum
signed-size true (pos zero) below above = refl
signed-size false (pos zero) below above = refl
signed-size negative (pos (suc n)) below above = ap (λ b. signed b (suc n)) (above (not-negative (suc n)) (omega arith))
signed-size negative (negsuc n) below above = ap (λ b. signed b (suc n)) (below refl)

-- only an amount with a sign, whose groups have a ring, is subtracted
pub signed_ring : (is_signed negative : Bool) → (is_signed && negative) ≡ true → is_signed ≡ true
signed_ring true negative is = refl
signed_ring false negative is = is

-- what is posted with its sign is added to the sum
pub stands_posted : (is_ring negative : Bool) (power number amount : ℕ) (sum : ℤ) → (negative ≡ true → is_ring ≡ true)
    → amount < power → Stands is_ring power sum number
    → Stands is_ring power (sum +ℤ signed negative amount) (number_after is_ring power (posted negative amount) number)
stands_posted is_ring false power number amount sum ring few stands = stands_plus is_ring power number amount sum few stands
stands_posted true true power number amount sum ring few stands = stands_minus power number amount sum few stands
stands_posted false true power number amount sum ring few stands = absurd (false≢true (ring refl))
