-- Wheels as the bytes of a word: one sum of words turns them all.
use Rattle.std.proofs.Common.{◌≡◌, ◌≢◌, ◌⊎◌, inl, inr, ◌/◌, ◌∙◌, refl, sym, ap, ℕ, zero, suc, ◌+◌, ◌-◌, ◌*◌, ◌^◌, ◌%◌, ◌<◌, ◌≤◌, ◌==◌, ◌&&◌, ◌||◌, nat_le, nat_lt, Bool, true, false, List, [], ◌∷◌, All, length, map, replicate, take, get_or, arith, if◌then◌else◌}
use Rattle.std.specs.Int.{from_le_bytes, to_le_bytes, w64}
use Rattle.std.specs.Simd.Lanes.{number_l, sel_l, top, zip2}
use Rattle.std.proofs.lemmas.Bool.Decides.{eqb_tells, nat_tests}
use Rattle.std.proofs.lemmas.List.Elements.{All-cons, All-head, All-nil, All-replicate, All-tail, All-take}
use Rattle.std.proofs.lemmas.List.{length-take-le, take-map, take-replicate}
use Rattle.std.proofs.lemmas.Nat.{le_bytes_8, mod-pow-add, shl-shr}
use Rattle.std.proofs.lemmas.Simd.{tops_compared}
use mir.Syntax.{w8}
use Rattle.std.proofs.Math.Nat.{mul-mod_left, pow-succ'}
use Rattle.counters.specs.Counters.{advance_of, base_of, wheels_of}
use Rattle.counters.specs.Laws.{IsDigit, IsWheel, carry_number}
use Rattle.counters.specs.Packed.{carries_on, carries_up, raised_up, turned_up, wheel_sum}
use Rattle.counters.specs.Wheels.{Wheel, all_nines, stepped}
use Rattle.counters.specs.declared.controls.Controls.{Controls}

-- a word of eight bytes is their number
pub le_bytes-number : (bs : List ℕ) → length bs ≡ 8 → from_le_bytes w64 bs ≡ number_l 256 bs
le_bytes-number [] l = absurd (omega (arith, l))
le_bytes-number (a ∷ []) l = absurd (omega (arith, l))
le_bytes-number (a ∷ b ∷ []) l = absurd (omega (arith, l))
le_bytes-number (a ∷ b ∷ c ∷ []) l = absurd (omega (arith, l))
le_bytes-number (a ∷ b ∷ c ∷ d ∷ []) l = absurd (omega (arith, l))
le_bytes-number (a ∷ b ∷ c ∷ d ∷ e ∷ []) l = absurd (omega (arith, l))
le_bytes-number (a ∷ b ∷ c ∷ d ∷ e ∷ f ∷ []) l = absurd (omega (arith, l))
le_bytes-number (a ∷ b ∷ c ∷ d ∷ e ∷ f ∷ g ∷ []) l = absurd (omega (arith, l))
le_bytes-number (a ∷ b ∷ c ∷ d ∷ e ∷ f ∷ g ∷ h ∷ []) l = omega arith
le_bytes-number (a ∷ b ∷ c ∷ d ∷ e ∷ f ∷ g ∷ h ∷ x ∷ bs) l = absurd (omega (arith, l))

-- ---- what the wheels start from and advance by

-- all bytes are 0
zeros : (xs : List ℕ) → number_l 256 (map (λ (x : ℕ). 0) xs) ≡ 0
zeros [] = refl
zeros (x ∷ xs) = let e = zeros xs in omega (arith, e)

-- all bytes are as they are
same : (xs : List ℕ) → number_l 256 (map (λ x. x) xs) ≡ number_l 256 xs
same [] = refl
same (x ∷ xs) = let e = same xs in omega (arith, e)

-- the digits from which the wheels start, as a number
pub bases-number : (controls : Controls) (ds : List ℕ)
    → number_l 256 (map (base_of controls) ds) ≡ (if controls.read_out then 0 else number_l 256 ds)
bases-number controls ds = by controls.read_out where
  by : (read : Bool) → number_l 256 (map (λ d. if read then 0 else d) ds) ≡ (if read then 0 else number_l 256 ds)
  by true = zeros ds
  by false = same ds

-- digits, and what they lack of 9, are nines
lacks : (es : List ℕ) → All IsDigit es → number_l 256 (map (λ e. 9 - e) es) + number_l 256 es ≡ number_l 256 (replicate (length es) 9)
lacks [] all = refl
lacks (e ∷ es) all =
    let first = All-head IsDigit e es all in
    let others = lacks es (All-tail IsDigit e es all) in
    omega (arith, first, others)

-- by how many steps the wheels advance, as a number
pub advances-number : (controls : Controls) (es : List ℕ) → All IsDigit es
    → number_l 256 (map (advance_of controls) es)
    ≡ (if controls.minus then number_l 256 (replicate (length es) 9) - number_l 256 es
    else if controls.plus then number_l 256 es else 0)
advances-number controls es all = by controls.minus controls.plus where
  by : (minus plus : Bool) → number_l 256 (map (λ e. if minus then 9 - e else if plus then e else 0) es)
      ≡ (if minus then number_l 256 (replicate (length es) 9) - number_l 256 es else if plus then number_l 256 es else 0)
  by true plus = omega (arith, lacks es all)
  by false true = same es
  by false false = zeros es

-- digits are at most nines
pub digits-number : (ds : List ℕ) → All IsDigit ds → number_l 256 ds ≤ number_l 256 (replicate (length ds) 9)
digits-number [] all = omega arith
digits-number (d ∷ ds) all =
    let first = All-head IsDigit d ds all in
    let others = digits-number ds (All-tail IsDigit d ds all) in
    omega (arith, first, others)

-- what the wheels start from and advance by, in one sum
pub advanced-number : (controls : Controls) (ds es : List ℕ) → length ds ≡ length es
    → number_l 256 (map wheel_sum (wheels_of controls ds es))
    ≡ number_l 256 (map (base_of controls) ds) + number_l 256 (map (advance_of controls) es)
advanced-number controls [] [] long = refl
advanced-number controls [] (e ∷ es) long = absurd (omega (arith, long))
advanced-number controls (d ∷ ds) [] long = absurd (omega (arith, long))
advanced-number controls (d ∷ ds) (e ∷ es) long =
    let others = advanced-number controls ds es (omega (arith, long)) in omega (arith, others)

-- ---- the carry

-- one byte: what it is in the end, and what it carries, are its sum
one_byte : (base advance : ℕ) (carry : Bool) → base ≤ 9 → advance ≤ 9
    → (base + advance + 246 + carry_number carry) % 256
    + 256 * carry_number (nat_le 10 (base + advance) || (((base + advance) % 10 == 9) && carry))
    ≡ base + advance + 246 + carry_number carry
one_byte base advance true small step = grind (arith, nat_tests)
one_byte base advance false small step = grind (arith, nat_tests)

-- one byte more below others; x is the power of 256 of the others' count
one_more : (byte sum carry into bytes sums spare out x p : ℕ) → p ≡ 256 * x
    → byte + 256 * into ≡ sum + 246 + carry
    → bytes + out * x ≡ sums + spare + into
    → (byte + 256 * bytes) + out * p ≡ (sum + 256 * sums) + (246 + 256 * spare) + carry
one_more byte sum carry into bytes sums spare out x p power first others =
    omega (arith, first, others, ap (λ n. out * n) power)

-- what the wheels start from, what they advance by, the carry and 246 a byte are the bytes in the end and what they carry out
pub raised-number : (ws : List Wheel) (carry : Bool) → All IsWheel ws
    → number_l 256 (raised_up ws carry) + carry_number (carries_up ws carry) * 256 ^ length ws
    ≡ number_l 256 (map wheel_sum ws) + number_l 256 (replicate (length ws) 246) + carry_number carry
raised-number [] carry all = omega arith
raised-number (w ∷ ws) carry all =
    let small = All-head IsWheel w ws all in
    one_more ((wheel_sum w + 246 + carry_number carry) % 256) (wheel_sum w) (carry_number carry) (carry_number (carries_on w carry))
    (number_l 256 (raised_up ws (carries_on w carry))) (number_l 256 (map wheel_sum ws)) (number_l 256 (replicate (length ws) 246))
    (carry_number (carries_up ws (carries_on w carry))) (256 ^ length ws) (256 ^ suc (length ws)) (pow-succ' 256 (length ws))
    (one_byte w.base w.advance carry small.0 small.1) (raised-number ws (carries_on w carry) (All-tail IsWheel w ws all))

-- as many bytes as wheels
pub length-raised_up : (ws : List Wheel) (carry : Bool) → length (raised_up ws carry) ≡ length ws
length-raised_up [] carry = refl
length-raised_up (w ∷ ws) carry = ap suc (length-raised_up ws (carries_on w carry))

-- bytes they are
raised-small : (ws : List Wheel) (carry : Bool) (i : ℕ) → get_or (raised_up ws carry) i 0 < 256
raised-small [] carry i = omega arith
raised-small (w ∷ ws) carry zero = omega arith
raised-small (w ∷ ws) carry (suc i) = raised-small ws (carries_on w carry) i

-- so many bytes are a number below so many powers of 256
number-small : (xs : List ℕ) → ((i : ℕ) → get_or xs i 0 < 256) → number_l 256 xs < 256 ^ length xs
number-small [] small = omega arith
number-small (x ∷ xs) small =
    let first = small 0 in
    let others = number-small xs (λ i. small (suc i)) in
    omega (arith, first, others, pow-succ' 256 (length xs))

-- the bytes of eight wheels from the sum of words, of which what leaves the highest is lost
pub raised-bytes : (ws : List Wheel) (carry : Bool) (sum : ℕ) → length ws ≡ 8 → All IsWheel ws
    → sum ≡ (number_l 256 (map wheel_sum ws) + carry_number carry + 17795682518166861558) % 2 ^ 64
    → to_le_bytes w64 sum ≡ raised_up ws carry
raised-bytes ws carry sum long all is =
    le_bytes_8 (raised_up ws carry) sum (length-raised_up ws carry ∙ long) (raised-small ws carry)
    (word (raised-number ws carry all) ∙ sym (le_bytes-number (raised_up ws carry) (length-raised_up ws carry ∙ long)))
  where
    small : number_l 256 (raised_up ws carry) < 2 ^ 64
    small =
        let e : 256 ^ length (raised_up ws carry) ≡ 2 ^ 64 = ap (λ n. 256 ^ n) (length-raised_up ws carry ∙ long) in
        omega (arith, e, number-small (raised_up ws carry) (raised-small ws carry))

    word : number_l 256 (raised_up ws carry) + carry_number (carries_up ws carry) * 256 ^ length ws
        ≡ number_l 256 (map wheel_sum ws) + number_l 256 (replicate (length ws) 246) + carry_number carry
        → sum ≡ number_l 256 (raised_up ws carry)
    word e =
        let power : carry_number (carries_up ws carry) * 256 ^ length ws ≡ carry_number (carries_up ws carry) * 2 ^ 64
        = ap (λ n. carry_number (carries_up ws carry) * 256 ^ n) long in
        let spare : number_l 256 (replicate (length ws) 246) ≡ 17795682518166861558 = ap (λ n. number_l 256 (replicate n 246)) long in
        omega (arith, is, e, power, spare, small)

-- ---- the digits

-- a byte less 246, counted round
abbrev without_spare : ℕ → ℕ → ℕ
without_spare byte spare = (byte + (256 - spare)) % 256

-- the lesser of a byte and what it is without 246 is the digit
one_digit : (base advance : ℕ) (carry : Bool) → base ≤ 9 → advance ≤ 9
    → (if nat_lt ((base + advance + 246 + carry_number carry) % 256) (without_spare ((base + advance + 246 + carry_number carry) % 256) 246)
    then (base + advance + 246 + carry_number carry) % 256
    else without_spare ((base + advance + 246 + carry_number carry) % 256) 246)
    ≡ (if carry then ((base + advance) % 10 + 1) % 10 else (base + advance) % 10)
one_digit base advance true small step = grind (arith, nat_tests)
one_digit base advance false small step = grind (arith, nat_tests)

-- bytes without 246
abbrev lowered : ℕ → List ℕ → List ℕ
lowered count bytes = zip2 without_spare bytes (replicate count 246)

-- all digits from their bytes
digits-lesser : (ws : List Wheel) (carry : Bool) → All IsWheel ws
    → sel_l (zip2 nat_lt (raised_up ws carry) (lowered (length ws) (raised_up ws carry))) (raised_up ws carry)
    (lowered (length ws) (raised_up ws carry))
    ≡ turned_up ws carry
digits-lesser [] carry all = refl
digits-lesser (w ∷ ws) carry all =
    let small = All-head IsWheel w ws all in
    let bytes = raised_up ws (carries_on w carry) in
    let others = lowered (length ws) bytes in
    ap (λ d. d ∷ sel_l (zip2 nat_lt bytes others) bytes others) (one_digit w.base w.advance carry small.0 small.1)
    ∙ ap (λ ds. stepped w carry ∷ ds) (digits-lesser ws (carries_on w carry) (All-tail IsWheel w ws all))

-- the digits of eight wheels from their bytes
pub bytes-digits : (ws : List Wheel) (carry : Bool) (bytes : List ℕ) → length ws ≡ 8 → All IsWheel ws → bytes ≡ raised_up ws carry
    → sel_l (map (top 7) (zip2 (λ a b. if nat_lt a b then 255 else 0) bytes (lowered 8 bytes))) bytes (lowered 8 bytes) ≡ turned_up ws carry
bytes-digits ws carry bytes long all is =
    ap (λ ms. sel_l ms bytes (lowered 8 bytes)) (tops_compared w8 nat_lt bytes (lowered 8 bytes))
    ∙ ap (λ bs. sel_l (zip2 nat_lt bs (lowered 8 bs)) bs (lowered 8 bs)) is
    ∙ ap (λ n. sel_l (zip2 nat_lt (raised_up ws carry) (lowered n (raised_up ws carry))) (raised_up ws carry) (lowered n (raised_up ws carry)))
    (sym long)
    ∙ digits-lesser ws carry all

-- digits they are
stepped-digit : (sum : ℕ) (carry : Bool) → (if carry then (sum % 10 + 1) % 10 else sum % 10) ≤ 9
stepped-digit sum true = grind (arith, nat_tests)
stepped-digit sum false = grind (arith, nat_tests)

pub turned_up-digits : (ws : List Wheel) (carry : Bool) → All IsDigit (turned_up ws carry)
turned_up-digits [] carry = All-nil IsDigit
turned_up-digits (w ∷ ws) carry =
    All-cons IsDigit (stepped w carry) (turned_up ws (carries_on w carry)) (stepped-digit (wheel_sum w) carry)
    (turned_up-digits ws (carries_on w carry))

-- whether a byte passed 255
one_passed : (base advance : ℕ) (carry : Bool) → base ≤ 9 → advance ≤ 9
    → nat_lt ((base + advance + 246 + carry_number carry) % 256) 128
    ≡ (nat_le 10 (base + advance) || (((base + advance) % 10 == 9) && carry))
one_passed base advance true small step = grind (arith, nat_tests)
one_passed base advance false small step = grind (arith, nat_tests)

-- whether a carry leaves the top of some wheels is seen by its byte
pub top-passed : (ws : List Wheel) (carry : Bool) (top : ℕ) → top < length ws → All IsWheel ws
    → nat_lt (get_or (raised_up ws carry) top 0) 128 ≡ carries_up (take (suc top) ws) carry
top-passed [] carry top within all = absurd (omega (arith, within))
top-passed (w ∷ ws) carry zero within all =
    let small = All-head IsWheel w ws all in one_passed w.base w.advance carry small.0 small.1
top-passed (w ∷ ws) carry (suc top) within all =
    top-passed ws (carries_on w carry) top (omega (arith, within)) (All-tail IsWheel w ws all)

-- ---- whether all wheels stand at 9

-- the lowest bytes of a word, by their count
number-lowest : (xs : List ℕ) (n : ℕ) → ((i : ℕ) → get_or xs i 0 < 256) → number_l 256 xs % 2 ^ (8 * n) ≡ number_l 256 (take n xs)
number-lowest xs zero small = omega arith
number-lowest [] (suc n) small = by (2 ^ (8 * suc n)) where
  by : (m : ℕ) → 0 % m ≡ 0
  by m = omega arith
number-lowest (x ∷ xs) (suc n) small =
    let count : 8 * suc n ≡ 8 * n + 8 = omega arith in
    let first = small 0 in
    let high : (x + 256 * number_l 256 xs) / 2 ^ 8 ≡ number_l 256 xs = omega (arith, first) in
    let low : (x + 256 * number_l 256 xs) % 2 ^ 8 ≡ x = omega (arith, first) in
    ap (λ m. (x + 256 * number_l 256 xs) % 2 ^ m) count
    ∙ mod-pow-add (x + 256 * number_l 256 xs) (8 * n) 8
    ∙ ap (λ m. m % 2 ^ (8 * n) * 2 ^ 8 + (x + 256 * number_l 256 xs) % 2 ^ 8) high
    ∙ ap (λ m. m * 2 ^ 8 + (x + 256 * number_l 256 xs) % 2 ^ 8) (number-lowest xs n (λ i. small (suc i)))
    ∙ ap (λ m. number_l 256 (take n xs) * 2 ^ 8 + m) low
    ∙ swapped x (number_l 256 (take n xs))
  where
    swapped : (x rest : ℕ) → rest * 2 ^ 8 + x ≡ x + 256 * rest
    swapped x rest = omega arith

-- bytes that make the same number as nines are nines
nines-number : (ws : List Wheel) → All IsWheel ws
    → (number_l 256 (map wheel_sum ws) == number_l 256 (replicate (length ws) 9)) ≡ all_nines ws
nines-number [] all = refl
nines-number (w ∷ ws) all =
    let small = All-head IsWheel w ws all in
    one_nine w.base w.advance (number_l 256 (map wheel_sum ws)) (number_l 256 (replicate (length ws) 9)) (all_nines ws) small.0 small.1
    (nines-number ws (All-tail IsWheel w ws all))
  where
    one_nine : (base advance sums nines : ℕ) (others : Bool) → base ≤ 9 → advance ≤ 9 → (sums == nines) ≡ others
        → (base + advance + 256 * sums == 9 + 256 * nines) ≡ (((base + advance) % 10 == 9) && others)
    one_nine base advance sums nines true small step is = grind (arith, nat_tests, is)
    one_nine base advance sums nines false small step is = grind (arith, nat_tests, is)

-- a word whose higher bits are shifted out
shifted-out : (a j s w : ℕ) → w ≡ j + s → (a * 2 ^ s) % 2 ^ w ≡ a % 2 ^ j * 2 ^ s
shifted-out a j s w is =
    ap (λ n. (a * 2 ^ s) % 2 ^ n) is
    ∙ mod-pow-add (a * 2 ^ s) j s
    ∙ ap (λ n. n % 2 ^ j * 2 ^ s + (a * 2 ^ s) % 2 ^ s) (shl-shr a s)
    ∙ ap (λ n. a % 2 ^ j * 2 ^ s + n) (mul-mod_left a (2 ^ s))
    ∙ nothing (a % 2 ^ j * 2 ^ s)
  where
    nothing : (n : ℕ) → n + 0 ≡ n
    nothing n = omega arith

-- two numbers are the same where they are after one shift
same-shifted : (a b s : ℕ) → (a * 2 ^ s == b * 2 ^ s) ≡ (a == b)
same-shifted a b s = by (eqb_tells (a * 2 ^ s) (b * 2 ^ s)) (eqb_tells a b) where
  by : ((a * 2 ^ s == b * 2 ^ s) ≡ true) × (a * 2 ^ s ≡ b * 2 ^ s) ⊎ ((a * 2 ^ s == b * 2 ^ s) ≡ false) × (a * 2 ^ s ≢ b * 2 ^ s)
      → ((a == b) ≡ true) × (a ≡ b) ⊎ ((a == b) ≡ false) × (a ≢ b)
      → (a * 2 ^ s == b * 2 ^ s) ≡ (a == b)
  by (inl one) (inl other) = one.0 ∙ sym other.0
  by (inl one) (inr other) = absurd (other.1 (sym (shl-shr a s) ∙ ap (λ n. n / 2 ^ s) one.1 ∙ shl-shr b s))
  by (inr one) (inl other) = absurd (one.1 (ap (λ n. n * 2 ^ s) other.1))
  by (inr one) (inr other) = one.0 ∙ sym other.0

-- what a wheel starts from and advances by is a byte
sum-small : (ws : List Wheel) → All IsWheel ws → (i : ℕ) → get_or (map wheel_sum ws) i 0 < 256
sum-small [] all i = omega arith
sum-small (w ∷ ws) all zero = let small = All-head IsWheel w ws all in omega (arith, small.0, small.1)
sum-small (w ∷ ws) all (suc i) = sum-small ws (All-tail IsWheel w ws all) i

-- some lowest of eight wheels stand at 9 where the word is nines once the others are shifted out
pub nines-shifted : (ws : List Wheel) (sum width : ℕ) → length ws ≡ 8 → width ≤ 8 → All IsWheel ws → sum ≡ number_l 256 (map wheel_sum ws)
    → ((sum * 2 ^ (64 - 8 * width)) % 2 ^ 64 == (651061555542690057 * 2 ^ (64 - 8 * width)) % 2 ^ 64) ≡ all_nines (take width ws)
nines-shifted ws sum width long narrow all is =
    let others = 64 - 8 * width in
    let all_bits : 64 ≡ 8 * width + others = omega (arith, narrow) in
    let lowest : sum % 2 ^ (8 * width) ≡ number_l 256 (map wheel_sum (take width ws))
    = ap (λ n. n % 2 ^ (8 * width)) is ∙ number-lowest (map wheel_sum ws) width (sum-small ws all)
    ∙ ap (number_l 256) (take-map wheel_sum width ws) in
    let count : width ≡ length (take width ws) = sym (length-take-le width ws (omega (arith, narrow, long))) in
    let nines : 651061555542690057 % 2 ^ (8 * width) ≡ number_l 256 (replicate (length (take width ws)) 9)
    = number-lowest (replicate 8 9) width nine-small ∙ ap (number_l 256) (take-replicate width 8 9 narrow ∙ ap (λ n. replicate n 9) count) in
    ap (λ n. n == (651061555542690057 * 2 ^ others) % 2 ^ 64) (shifted-out sum (8 * width) others 64 all_bits)
    ∙ ap (λ n. sum % 2 ^ (8 * width) * 2 ^ others == n) (shifted-out 651061555542690057 (8 * width) others 64 all_bits)
    ∙ same-shifted (sum % 2 ^ (8 * width)) (651061555542690057 % 2 ^ (8 * width)) others
    ∙ ap (λ n. n == 651061555542690057 % 2 ^ (8 * width)) lowest
    ∙ ap (λ n. number_l 256 (map wheel_sum (take width ws)) == n) nines
    ∙ nines-number (take width ws) (All-take IsWheel width ws all)
  where
    nine-small : (i : ℕ) → get_or (replicate 8 9) i 0 < 256
    nine-small i = small (replicate 8 9) (All-replicate (λ (n : ℕ). n < 256) 8 9 (omega arith)) i where
      small : (xs : List ℕ) → All (λ (n : ℕ). n < 256) xs → (i : ℕ) → get_or xs i 0 < 256
      small [] all i = omega arith
      small (x ∷ xs) all zero = All-head (λ (n : ℕ). n < 256) x xs all
      small (x ∷ xs) all (suc i) = small xs (All-tail (λ (n : ℕ). n < 256) x xs all) i
