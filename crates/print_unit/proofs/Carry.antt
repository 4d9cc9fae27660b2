-- A sum's carries: what goes into each bit of a sum from the bits below it.
use Rattle.std.proofs.Common.{◌≡◌, ◌∙◌, refl, sym, ap, ℕ, suc, zero, ◌+◌, ◌-◌, ◌/◌, ◌%◌, ◌^◌, ◌<◌, ◌≤◌, ◌==◌, ◌&&◌, ◌||◌, Bool, true, false, List, arith, bit_and, bit_or}
use Rattle.std.proofs.lemmas.Bool.Decides.{nat_tests}
use Rattle.std.proofs.lemmas.Nat.Bits.{bit_at_lowest, bit_at-suc, bit_at-lt, bit_at_xor, bit_at_and, bit_at_ones}
use Rattle.std.specs.Int.{bit_at}
use Rattle.std.specs.Int.RustNames.{bit_xor}
use Rattle.net.specs.HubSets.{is_bit}
use Rattle.print_unit.specs.WheelWords.{IsGiven, given_by}
use Rattle.print_unit.specs.ZeroControl.{is_figure}
use Rattle.print_unit.proofs.Bits.{is_bit-or}

-- the carry into bit k of a sum, with a carry into the sum itself
carry_at : ℕ → ℕ → ℕ → ℕ → ℕ
carry_at one other carry zero = carry
carry_at one other carry (suc k) = carry_at (one / 2) (other / 2) ((one % 2 + other % 2 + carry) / 2) k

-- a bit of a sum
bit_at-sum : (one other carry k : ℕ)
    → bit_at (one + other + carry) k ≡ (bit_at one k + bit_at other k + carry_at one other carry k) % 2
unfolding carry_at
bit_at-sum one other carry zero =
    rw (bit_at_lowest (one + other + carry), bit_at_lowest one, bit_at_lowest other) (omega arith)
bit_at-sum one other carry (suc k) =
    let half : (one + other + carry) / 2 ≡ one / 2 + other / 2 + (one % 2 + other % 2 + carry) / 2 = omega arith in
    bit_at-suc (one + other + carry) k
    ∙ ap (λ n. bit_at n k) half
    ∙ bit_at-sum (one / 2) (other / 2) ((one % 2 + other % 2 + carry) / 2) k
    ∙ rw (bit_at-suc one k, bit_at-suc other k) refl

-- the carry into the next bit
carry_at-next : (one other carry k : ℕ)
    → carry_at one other carry (suc k) ≡ (bit_at one k + bit_at other k + carry_at one other carry k) / 2
unfolding carry_at
carry_at-next one other carry zero = rw (bit_at_lowest one, bit_at_lowest other) refl
carry_at-next one other carry (suc k) =
    carry_at-next (one / 2) (other / 2) ((one % 2 + other % 2 + carry) / 2) k
    ∙ rw (bit_at-suc one k, bit_at-suc other k) refl

-- a carry is 0 or 1
carry_at-small : (one other k : ℕ) → carry_at one other 0 k ≤ 1
unfolding carry_at
carry_at-small one other zero = omega arith
carry_at-small one other (suc k) =
    let next = carry_at-next one other 0 k in
    let before = carry_at-small one other k in
    let a = bit_at-lt one k in
    let b = bit_at-lt other k in
    rw next (omega (arith, before, a, b))

-- the carry into a bit, from the sum and what is added
carry_at-by_sum : (one other k : ℕ) → bit_at (bit_xor (bit_xor (one + other) one) other) k ≡ carry_at one other 0 k
carry_at-by_sum one other k =
    let sum = bit_at-sum one other 0 k in
    let same : one + other + 0 ≡ one + other = omega arith in
    let small = carry_at-small one other k in
    let a = bit_at-lt one k in
    let b = bit_at-lt other k in
    rw (bit_at_xor (bit_xor (one + other) one) other k, bit_at_xor (one + other) one k, sym same, sum) (omega (arith, small, a, b))

-- a carry goes on where a wheel that is linked has it, or where a figure starts one
next-carry : (figure link : Bool) (one other carry : ℕ) → one < 2 → other < 2 → carry ≤ 1
    → (one == 1) ≡ (figure || link) → (other == 1) ≡ figure
    → ((one + other + carry) / 2 == 1) ≡ (link && (carry == 1) || figure)
next-carry true link one other carry small_one small_other small_carry is_one is_other =
    let a : (one + other + carry) / 2 ≡ 1 =
    let b : one ≡ 1 = grind (arith, nat_tests, is_one) in
    let c : other ≡ 1 = grind (arith, nat_tests, is_other) in
    omega (arith, b, c, small_carry) in
    rw a (grind (arith, nat_tests))
next-carry false true one other carry small_one small_other small_carry is_one is_other =
    let a : (one + other + carry) / 2 ≡ carry =
    let b : one ≡ 1 = grind (arith, nat_tests, is_one) in
    let c : other ≡ 0 = grind (arith, nat_tests, is_other, small_other) in
    omega (arith, b, c, small_carry) in
    rw a (grind (arith, nat_tests))
next-carry false false one other carry small_one small_other small_carry is_one is_other =
    let a : (one + other + carry) / 2 ≡ 0 =
    let b : one ≡ 0 = grind (arith, nat_tests, is_one, small_one) in
    let c : other ≡ 0 = grind (arith, nat_tests, is_other, small_other) in
    omega (arith, b, c, small_carry) in
    rw a (grind (arith, nat_tests))

-- the bits of the wheels alone
masked : (word k : ℕ) → k < 120 → is_bit (bit_and word (2 ^ 120 - 1)) k ≡ is_bit word k
unfolding is_bit
masked word k below =
    let ones = bit_at_ones 120 k below in
    let small = bit_at-lt word k in
    rw (bit_at_and word (2 ^ 120 - 1) k, ones) (grind (arith, nat_tests, small))

-- no carry goes into the lowest bit
carry_at-lowest : (one other : ℕ) → carry_at one other 0 0 ≡ 0
unfolding carry_at
carry_at-lowest one other = refl

-- the carries of the sum of the figures with the figures and links are what the wheels are given
pub given-by_sum : (link figures : ℕ)
    → IsGiven link figures
    (bit_xor (bit_xor (bit_and (bit_or figures link) (2 ^ 120 - 1) + bit_and figures (2 ^ 120 - 1)) (bit_and (bit_or figures link) (2 ^ 120 - 1))) (bit_and figures (2 ^ 120 - 1)))
unfolding is_bit
given-by_sum link figures =
    let passes = bit_and (bit_or figures link) (2 ^ 120 - 1) in
    let starts = bit_and figures (2 ^ 120 - 1) in
    record {
      first = rw (carry_at-by_sum passes starts 0, carry_at-lowest passes starts) refl;
      next = λ k below.
          let more : k + 1 ≡ suc k = omega arith in
          let wide : k < 120 = omega (arith, below) in
          let passing = masked (bit_or figures link) k wide ∙ is_bit-or figures link k in
          let starting = masked figures k wide in
          let carries = next-carry (is_bit figures k) (is_bit link k) (bit_at passes k) (bit_at starts k) (carry_at passes starts 0 k) (bit_at-lt passes k) (bit_at-lt starts k) (carry_at-small passes starts k) passing starting in
          rw (more, carry_at-by_sum passes starts (suc k), carry_at-by_sum passes starts k, carry_at-next passes starts 0 k) carries;
    }

-- what the wheels are given is what the word of LINK and what they received say
pub given_by-word : (received : ℕ → List Bool) (link figures given : ℕ) → IsGiven link figures given
    → ((k : ℕ) → k < 120 → is_bit figures k ≡ is_figure (received k))
    → (k : ℕ) → k < 120 → is_bit given k ≡ given_by received link k
given_by-word received link figures given is_given are_figures zero below = is_given.first
given_by-word received link figures given is_given are_figures (suc k) below =
    let more : k + 1 ≡ suc k = omega arith in
    let before = given_by-word received link figures given is_given are_figures k (omega (arith, below)) in
    let next = is_given.next k (omega (arith, below)) in
    ap (λ n. is_bit given n) (sym more) ∙ next ∙ rw (before, are_figures k (omega (arith, below))) refl
