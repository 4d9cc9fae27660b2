-- Turning wheels as adding numbers.
use Rattle.std.proofs.Common.{◌≡◌, ◌∙◌, sym, ap, subst, ℕ, suc, ◌+◌, ◌-◌, ◌*◌, ◌^◌, ◌%◌, ◌<◌, ◌≤◌, ◌==◌, ◌&&◌, ◌||◌, nat_le, Bool, true, false, List, [], ◌∷◌, All, length, map, arith, if◌then◌else◌}
use Rattle.std.proofs.lemmas.Bool.Decides.{nat_tests}
use Rattle.std.proofs.lemmas.List.{length-map}
use Rattle.std.proofs.lemmas.List.Elements.{All-cons, All-head, All-nil, All-tail}
use Rattle.std.proofs.lemmas.Nat.{mod-mul-add}
use Rattle.std.proofs.Math.Nat.{pow-succ'}
use Rattle.counters.specs.Laws.{IsDigit, IsWheel, carry_number}
use Rattle.counters.specs.Numbers.{number, left_number}
use Rattle.counters.specs.Wheels.{Wheel, stepped, carries_out, turned, turned_round}
use Rattle.counters.proofs.Carries.{length-turned, carries_out-again}
use Rattle.counters.proofs.NumberLemmas.{number-lt}

-- one wheel: its digit and what it carries are its sum
one_wheel : (base advance : ℕ) (carry : Bool) → base ≤ 9 → advance ≤ 9
    → (if carry then ((base + advance) % 10 + 1) % 10 else (base + advance) % 10)
    + 10 * carry_number (nat_le 10 (base + advance) || (((base + advance) % 10 == 9) && carry))
    ≡ base + advance + carry_number carry
one_wheel base advance true small step = grind (arith, nat_tests)
one_wheel base advance false small step = grind (arith, nat_tests)

-- one wheel more above others, in numbers; x is the power of ten of the others' count
one_more : (digit out base advance into number_below bases advances carry x p : ℕ) → p ≡ 10 * x
    → digit + 10 * out ≡ base + advance + into
    → number_below + into * x ≡ bases + advances + carry
    → (digit * x + number_below) + out * p ≡ (base * x + bases) + (advance * x + advances) + carry
one_more digit out base advance into number_below bases advances carry x p power wheel below =
    omega (arith, ap (λ n. n * x) wheel, below, ap (λ n. out * n) power)

pub turned-sum : (ws : List Wheel) (carry : Bool) → All IsWheel ws
    → number (turned ws carry) + carry_number (carries_out ws carry) * 10 ^ length ws
    ≡ number (map (λ wheel. wheel.base) ws) + number (map (λ wheel. wheel.advance) ws) + carry_number carry
turned-sum [] carry all = omega arith
turned-sum (w ∷ ws) carry all =
    let small = All-head IsWheel w ws all in
    rw (length-turned ws carry, length-map ws (λ (wheel : Wheel). wheel.base), length-map ws (λ (wheel : Wheel). wheel.advance))
    (one_more (stepped w (carries_out ws carry)) (carry_number (carries_out (w ∷ ws) carry)) w.base w.advance
    (carry_number (carries_out ws carry)) (number (turned ws carry)) (number (map (λ wheel. wheel.base) ws))
    (number (map (λ wheel. wheel.advance) ws)) (carry_number carry) (10 ^ length ws) (10 ^ suc (length ws))
    (pow-succ' 10 (length ws)) (one_wheel w.base w.advance (carries_out ws carry) small.0 small.1)
    (turned-sum ws carry (All-tail IsWheel w ws all)))

-- wheels turn to digits
stepped-digit : (sum : ℕ) (carry : Bool) → (if carry then (sum % 10 + 1) % 10 else sum % 10) ≤ 9
stepped-digit sum true = grind (arith, nat_tests)
stepped-digit sum false = grind (arith, nat_tests)

pub turned-digits : (ws : List Wheel) (carry : Bool) → All IsDigit (turned ws carry)
turned-digits [] carry = All-nil IsDigit
turned-digits (w ∷ ws) carry =
    All-cons IsDigit (stepped w (carries_out ws carry)) (turned ws carry) (stepped-digit (w.base + w.advance) (carries_out ws carry))
    (turned-digits ws carry)

-- what turned wheels spell is below the power
pub turned-lt : (ws : List Wheel) (carry : Bool) → number (turned ws carry) < 10 ^ length ws
turned-lt ws carry =
    subst (λ (n : ℕ). number (turned ws carry) < 10 ^ n) (length-turned ws carry)
    (number-lt (turned ws carry) (turned-digits ws carry))

-- what is left of a sum without a ring
line_left : (left out power sum : ℕ) → left < power → left + out * power ≡ sum + 0 → left ≡ sum % power
line_left left out power sum small is =
    let e : out * power + left ≡ sum = omega (arith, is) in
    sym (mod-mul-add out power left small) ∙ ap (λ n. n % power) e

-- what is left of a sum in a ring: once without the carry that comes round, then with it
ring_left : (carry : Bool) (left once power sum : ℕ) → left < power → once < power
    → once + carry_number carry * power ≡ sum + 0
    → left + carry_number carry * power ≡ sum + carry_number carry
    → left ≡ (if nat_le power sum then sum - (power - 1) else sum)
ring_left true left once power sum small first is next =
    let over : nat_le power sum ≡ true = grind (arith, nat_tests, is) in
    let e : left ≡ sum - (power - 1) = omega (arith, next, is, small) in
    e ∙ sym (ap (λ b. if b then sum - (power - 1) else sum) over)
ring_left false left once power sum small first is next =
    let over : nat_le power sum ≡ false = grind (arith, nat_tests, is, first) in
    let e : left ≡ sum = omega (arith, next) in
    e ∙ sym (ap (λ b. if b then sum - (power - 1) else sum) over)

-- the number of wheels that turn round is what is left of the sum of their numbers
pub turned_round-number : (is_ring : Bool) (ws : List Wheel) (sum : ℕ) → All IsWheel ws
    → number (map (λ wheel. wheel.base) ws) + number (map (λ wheel. wheel.advance) ws) ≡ sum
    → number (turned_round is_ring ws) ≡ left_number is_ring (10 ^ length ws) sum
turned_round-number false ws sum all is =
    line_left (number (turned ws false)) (carry_number (carries_out ws false)) (10 ^ length ws) sum (turned-lt ws false)
    (turned-sum ws false all ∙ ap (λ n. n + 0) is)
turned_round-number true ws sum all is =
    let carry = carries_out ws false in
    ring_left carry (number (turned ws carry)) (number (turned ws false)) (10 ^ length ws) sum (turned-lt ws carry)
    (turned-lt ws false) (turned-sum ws false all ∙ ap (λ n. n + 0) is)
    (ap (λ b. number (turned ws carry) + carry_number b * 10 ^ length ws) (sym (carries_out-again ws)) ∙ turned-sum ws carry all
    ∙ ap (λ n. n + carry_number carry) is)
