-- Digits by position and the numbers that they spell.
use Rattle.std.proofs.Common.{◌≡◌, ◌∙◌, refl, sym, ap, subst, inl, inr, ℕ, zero, suc, ◌+◌, ◌-◌, ◌*◌, ◌/◌, ◌%◌, ◌^◌, ◌<◌, ◌≤◌, List, [], ◌∷◌, length, All, arith}
use Rattle.std.proofs.lemmas.Bool.{cases_lt}
use Rattle.std.proofs.lemmas.List.Elements.{All-cons, All-head, All-nil, All-tail}
use Rattle.std.proofs.lemmas.Nat.{div-mul-add, pow-add}
use Rattle.std.proofs.Math.Arith.{mod-mul}
use Rattle.std.proofs.Math.Nat.{add-mul-div_right, add-mul-mod_self_right, div-eq_of_lt, mod-eq_of_lt, mod-lt, mul-le-mul_right, one-le-pow, pow-le-pow_right, pow-succ'}
use Rattle.counters.specs.Counters.{Counter}
use Rattle.counters.specs.Laws.{IsCounter, IsDigit}
use Rattle.counters.specs.Numbers.{number}
use Rattle.counters.specs.WholeCycles.{listed}
use Rattle.counters.proofs.ListedDigits.{length-listed, listed-same}
use Rattle.counters.proofs.NumberLemmas.{number-lt}
use Rattle.proof_cycles.specs.TotalsWords.CounterCycles.Acts.{digit_of}
use Rattle.proof_cycles.specs.TotalsWords.CounterCycles.Digits.{spelt}

-- a power of ten is above 0
pub power-some : (n : ℕ) → 0 < 10 ^ n
power-some n = one-le-pow n 10 (omega arith)

-- a digit is at most 9
pub digit_of-small : (n position : ℕ) → digit_of n position ≤ 9
digit_of-small n position = let e = mod-lt (n / 10 ^ (position - 1)) {m = 10} (omega arith) in omega (arith, e)

-- above the digits of a number stand zeros
pub digit_of-above : (n count position : ℕ) → n < 10 ^ count → count < position → digit_of n position ≡ 0
digit_of-above n count position small above =
    let least : 10 ^ count ≤ 10 ^ (position - 1) = pow-le-pow_right (omega arith) (omega (arith, above)) in
    let none : n / 10 ^ (position - 1) ≡ 0 = div-eq_of_lt (omega (arith, least, small)) in
    ap (λ k. k % 10) none

-- the digit that stands before others
pub digit_of-top : (d m count : ℕ) → d ≤ 9 → m < 10 ^ count → digit_of (d * 10 ^ count + m) (count + 1) ≡ d
digit_of-top d m count small below =
    let place : count + 1 - 1 ≡ count = omega arith in
    ap (λ k. (d * 10 ^ count + m) / 10 ^ k % 10) place ∙ ap (λ k. k % 10) (div-mul-add d (10 ^ count) m below)
    ∙ mod-eq_of_lt (omega (arith, small))

-- a number before others, in parts
parted : (d m x y : ℕ) → d * (y * (10 * x)) + m ≡ m + (d * x * 10) * y
parted d m x y = omega arith

-- the digits after one that stands before them
pub digit_of-below : (d m count position : ℕ) → 1 ≤ position → position ≤ count
    → digit_of (d * 10 ^ count + m) position ≡ digit_of m position
digit_of-below d m count position from to =
    let low = position - 1 in
    let rest = count - position in
    let places : count ≡ low + suc rest = omega (arith, from, to) in
    let power : 10 ^ count ≡ 10 ^ low * (10 * 10 ^ rest)
    = ap (λ k. 10 ^ k) places ∙ pow-add 10 low (suc rest) ∙ ap (λ p. 10 ^ low * p) (pow-succ' 10 rest) in
    ap (λ n. n / 10 ^ low % 10) (ap (λ p. d * p + m) power ∙ parted d m (10 ^ rest) (10 ^ low))
    ∙ ap (λ k. k % 10) (add-mul-div_right m (d * 10 ^ rest * 10) (power-some low))
    ∙ add-mul-mod_self_right (m / 10 ^ low) (d * 10 ^ rest) 10

-- a digit before others stays below the power
before_small : (d x n : ℕ) → d ≤ 9 → n < x → d * x + n < 10 * x
before_small d x n digit small = omega (arith, mul-le-mul_right x digit, small)

-- what digits spell is below the power of their count
pub spelt-small : (digit : ℕ → ℕ) (count : ℕ) → ((other : ℕ) → 1 ≤ other → other ≤ count → digit other ≤ 9)
    → spelt digit count < 10 ^ count
spelt-small digit zero small = omega arith
spelt-small digit (suc count) small =
    rw (pow-succ' 10 count)
    (before_small (digit (count + 1)) (10 ^ count) (spelt digit count) (small (count + 1) (omega arith) (omega arith))
    (spelt-small digit count (λ other from to. small other from (omega (arith, to)))))

-- the digits of what digits spell
pub spelt-digit : (digit : ℕ → ℕ) (count position : ℕ) → ((other : ℕ) → 1 ≤ other → other ≤ count → digit other ≤ 9)
    → 1 ≤ position → position ≤ count → digit_of (spelt digit count) position ≡ digit position
spelt-digit digit zero position small from to = absurd (omega (arith, from, to))
spelt-digit digit (suc count) position small from to = elim (cases_lt position (count + 1)) [
  | inl low ↦
      digit_of-below (digit (count + 1)) (spelt digit count) count position from (omega (arith, low))
      ∙ spelt-digit digit count position (λ other least most. small other least (omega (arith, most))) from (omega (arith, low))
  | inr high ↦
      let is : position ≡ count + 1 = omega (arith, high, to) in
      ap (digit_of (spelt digit (suc count))) is
      ∙ digit_of-top (digit (count + 1)) (spelt digit count) count (small (count + 1) (omega arith) (omega arith))
      (spelt-small digit count (λ other least most. small other least (omega (arith, most))))
      ∙ ap digit (sym is)
]

-- what the digits of a number spell is what is left of it
spelt-left : (n count : ℕ) → spelt (digit_of n) count ≡ n % 10 ^ count
spelt-left n zero = let e = mod-lt n {m = 1} (omega arith) in omega (arith, e)
spelt-left n (suc count) =
    let place : count + 1 - 1 ≡ count = omega arith in
    ap (λ k. n / 10 ^ k % 10 * 10 ^ count + spelt (digit_of n) count) place
    ∙ ap (λ m. n / 10 ^ count % 10 * 10 ^ count + m) (spelt-left n count)
    ∙ sym (ap (λ p. n % p) (pow-succ' 10 count) ∙ mod-mul n {m = 10} {c = 10 ^ count} (omega arith) (power-some count))

-- the digits of a number spell it
pub spelt-number : (n count : ℕ) → n < 10 ^ count → spelt (digit_of n) count ≡ n
spelt-number n count small = spelt-left n count ∙ mod-eq_of_lt small

-- digits by position spell the same as a list
pub number-listed : (digit : ℕ → ℕ) (count : ℕ) → number (listed digit count) ≡ spelt digit count
number-listed digit zero = refl
number-listed digit (suc count) =
    ap (λ n. digit (count + 1) * 10 ^ n + number (listed digit count)) (length-listed digit count)
    ∙ ap (λ n. digit (count + 1) * 10 ^ count + n) (number-listed digit count)

pub listed-digits : (digit : ℕ → ℕ) (count : ℕ) → ((other : ℕ) → digit other ≤ 9) → All IsDigit (listed digit count)
listed-digits digit zero small = All-nil IsDigit
listed-digits digit (suc count) small =
    All-cons IsDigit (digit (count + 1)) (listed digit count) (small (count + 1)) (listed-digits digit count small)

-- digits are the list of those of their number
pub listed-number : (ds : List ℕ) → All IsDigit ds → ds ≡ listed (digit_of (number ds)) (length ds)
listed-number [] all = refl
listed-number (d ∷ ds) all =
    let rest = All-tail IsDigit d ds all in
    let top = digit_of-top d (number ds) (length ds) (All-head IsDigit d ds all) (number-lt ds rest) in
    ap (λ ks. d ∷ ks) (listed-number ds rest
    ∙ listed-same (digit_of (number ds)) (digit_of (number (d ∷ ds))) (length ds)
    (λ position from to. sym (digit_of-below d (number ds) (length ds) position from to)))
    ∙ ap (λ k. k ∷ listed (digit_of (number (d ∷ ds))) (length ds)) (sym top)

-- a group holds a number below the power of its width
pub number-within : (counter : Counter) → IsCounter counter → number counter.digits < 10 ^ counter.name.width
number-within counter is = subst (λ (n : ℕ). number counter.digits < 10 ^ n) is.positions (number-lt counter.digits is.digits)
