-- A number that stands for a sum: what adding and subtracting make of it, and what it tells of a sum that fits.
use Rattle.std.proofs.Common.{◌≡◌, ◌∙◌, refl, sym, ap, ℕ, zero, suc, ◌+◌, ◌-◌, ◌*◌, ◌%◌, ◌≤◌, ◌<◌, nat_le, ◌⊎◌, inl, inr, Bool, true, false, ℤ, ◌+ℤ◌, neg_ℤ, pos, negsuc, if◌then◌else◌, arith, unsigned_abs}
use Rattle.std.proofs.Math.Nat.{mod-eq-sub-mod, mod-eq_of_lt}
use Rattle.std.proofs.lemmas.Bool.Decides.{nat_tests}
use Rattle.std.proofs.lemmas.Int.{ints}
use Rattle.counters.specs.Numbers.{left_number}
use Rattle.proof_cycles.specs.TotalsWords.Standing.{Stands, modulus}

-- a number that stands for a sum stands for an equal sum, and so does an equal number
pub along : (is_ring : Bool) (power : ℕ) {sum other : ℤ} {number same : ℕ} → sum ≡ other → number ≡ same
    → Stands is_ring power sum number → Stands is_ring power other same
along is_ring power {sum} {other} {number} {same} s n stands = record {
  up = stands.up;
  down = stands.down;
  small = omega (arith, n, stands.small);
  same = ap (λ k. pos (k + stands.up * modulus is_ring power)) (sym n) ∙ stands.same
      ∙ ap (λ z. z +ℤ pos (stands.down * modulus is_ring power)) s;
}

-- 0 stands for a sum of 0
pub zero_stands : (is_ring : Bool) (power : ℕ) → 0 < power → Stands is_ring power (pos 0) 0
zero_stands is_ring power some = record { up = 0; down = 0; small = some; same = omega (arith, ints) }

-- a sum below twice the power, without a ring
left_line : (power sum : ℕ) → sum < power + power → left_number false power sum ≡ (if nat_le power sum then sum - power else sum)
left_line power sum few = by (nat_le power sum) refl
  where
    by : (b : Bool) → nat_le power sum ≡ b → sum % power ≡ (if b then sum - power else sum)
    by true is =
        let big : power ≤ sum = grind (arith, nat_tests, is) in
        mod-eq-sub-mod big ∙ mod-eq_of_lt (omega (arith, few, big))
    by false is = mod-eq_of_lt (grind (arith, nat_tests, is))

-- the carry of a ring is added at the units
plus_in_ring : (carry : Bool) (power number amount : ℕ) (sum : ℤ) → nat_le power (number + amount) ≡ carry → amount < power
    → Stands true power sum number
    → Stands true power (sum +ℤ pos amount) (if carry then number + amount - (power - 1) else number + amount)
plus_in_ring true power number amount sum is few stands =
    let big : power ≤ number + amount = grind (arith, nat_tests, is) in
    record {
      up = stands.up + 1;
      down = stands.down;
      small = omega (arith, few, stands.small);
      same = omega (arith, ints, stands.same, big, few);
    }
plus_in_ring false power number amount sum is few stands = record {
  up = stands.up;
  down = stands.down;
  small = grind (arith, nat_tests, is);
  same = omega (arith, ints, stands.same);
}

-- the carry of a line of wheels is lost
plus_in_line : (carry : Bool) (power number amount : ℕ) (sum : ℤ) → nat_le power (number + amount) ≡ carry → amount < power
    → Stands false power sum number
    → Stands false power (sum +ℤ pos amount) (if carry then number + amount - power else number + amount)
plus_in_line true power number amount sum is few stands =
    let big : power ≤ number + amount = grind (arith, nat_tests, is) in
    record {
      up = stands.up + 1;
      down = stands.down;
      small = omega (arith, few, stands.small, big);
      same = omega (arith, ints, stands.same, big);
    }
plus_in_line false power number amount sum is few stands = record {
  up = stands.up;
  down = stands.down;
  small = grind (arith, nat_tests, is);
  same = omega (arith, ints, stands.same);
}

-- adding
pub stands_plus : (is_ring : Bool) (power number amount : ℕ) (sum : ℤ) → amount < power → Stands is_ring power sum number
    → Stands is_ring power (sum +ℤ pos amount) (left_number is_ring power (number + amount))
stands_plus true power number amount sum few stands =
    plus_in_ring (nat_le power (number + amount)) power number amount sum refl few stands
stands_plus false power number amount sum few stands =
    along false power refl (sym (left_line power (number + amount) (omega (arith, few, stands.small))))
    (plus_in_line (nat_le power (number + amount)) power number amount sum refl few stands)

-- all nines are a round of the ring
round_less : (power amount number : ℕ) (sum : ℤ) → amount < power → Stands true power (sum +ℤ pos (power - 1 - amount)) number
    → Stands true power (sum +ℤ neg_ℤ (pos amount)) number
round_less power amount number sum few stands = record {
  up = stands.up;
  down = stands.down + 1;
  small = stands.small;
  same = omega (arith, ints, stands.same, few);
}

-- subtracting, in a ring
pub stands_minus : (power number amount : ℕ) (sum : ℤ) → amount < power → Stands true power sum number
    → Stands true power (sum +ℤ neg_ℤ (pos amount)) (left_number true power (number + (power - 1 - amount)))
stands_minus power number amount sum few stands =
    round_less power amount (left_number true power (number + (power - 1 - amount))) sum few
    (stands_plus true power number (power - 1 - amount) sum (omega (arith, few)) stands)

-- Two that differ by rounds and are both below the modulus are one, or a round apart.
pub near : (m number up down : ℕ) (sum : ℤ) → number ≤ m → unsigned_abs sum < m → pos (number + up * m) ≡ sum +ℤ pos (down * m)
    → (pos number ≡ sum) ⊎ (pos number ≡ sum +ℤ pos m)
near m number zero zero sum few small same = inl (omega (arith, ints, same))
near m number (suc up) (suc down) sum few small same = near m number up down sum few small (omega (arith, ints, same))
near m number (suc up) zero (pos n) few small same = absurd (omega (arith, ints, same, small))
near m number (suc up) zero (negsuc n) few small same = absurd (omega (arith, ints, same))
near m number zero (suc zero) sum few small same = inr (omega (arith, ints, same))
near m number zero (suc (suc down)) (pos n) few small same = absurd (omega (arith, ints, same, small, few))
near m number zero (suc (suc down)) (negsuc n) few small same = absurd (omega (arith, ints, same, small, few))
