-- Sets of places: what their words have, and what comes to them with a word.
use Rattle.std.proofs.Common.{⊎_elim, ◌⊎◌, inl, inr, ◌≡◌, ◌≢◌, ℕ, ◌+◌, ◌-◌, ◌*◌, ◌/◌, ◌%◌, ◌^◌, ◌<◌, ◌≤◌, ◌∙◌, sym, ap, refl, arith, Bool, true, false, ◌&&◌, ◌||◌, List, length, replicate, slice_index_or, slice_set}
use Rattle.std.specs.Prelude.{nat_le, nat_lt, ◌==◌}
use Rattle.std.specs.Int.{trailing_zeros, w64}
use Rattle.std.specs.Int.Bits.{bit_and, bit_or}
use Rattle.std.proofs.lemmas.Nat.{and_le_l, le_or_l, le_or_r}
use Rattle.std.proofs.lemmas.Bool.Decides.{nat_tests}
use Rattle.std.proofs.lemmas.Bool.{and_parts, cases_eq, cases_lt, false≢true}
use Rattle.std.proofs.Math.Bool.{and-false, or-false}
use Rattle.std.proofs.lemmas.Grind.{common_steps}
use Rattle.std.proofs.lemmas.List.{get_or_past, get_or-replicate}
use Rattle.machine_sets.specs.BitSets.Bits.{is_bit, has_place, is_in_run}
use Rattle.machine_sets.specs.BitSets.Contacts.{ShareAPlace}
use Rattle.machine_sets.proofs.BitSets.BitLemmas.{is_bit-and, is_bit-or, is_bit-zero, is_bit-above, lowest_bit, none_set}

pub has_place-word : (words : List ℕ) (k : ℕ) → has_place words k ≡ is_bit (slice_index_or words (k / 64) 0) (k % 64)
unfolding has_place
has_place-word words k = refl

-- no word, no place
pub has_place-past : (words : List ℕ) (k : ℕ) → length words * 64 ≤ k → has_place words k ≡ false
has_place-past words k past =
    let none : slice_index_or words (k / 64) 0 ≡ 0 = grind (arith, common_steps, get_or_past) in
    has_place-word words k ∙ ap (λ w. is_bit w (k % 64)) none ∙ is_bit-zero (k % 64)

-- Where one word is joined with another word, each place of it gains its bit there.
pub place_gains :
    (test : ℕ → Bool) (words : List ℕ) (number word : ℕ) → number < length words
    → ((j : ℕ) → j < 64 → is_bit word j ≡ test (64 * number + j))
    → (k : ℕ) → has_place (slice_set words number (bit_or (slice_index_or words number 0) word)) k
    ≡ (has_place words k || (k / 64 == number) && test k)
place_gains test words number word inside bits k =
    has_place-word (slice_set words number (bit_or (slice_index_or words number 0) word)) k
    ∙ ⊎_elim at other (cases_eq (k / 64) number)
    ∙ ap (λ b. b || ((k / 64 == number) && test k)) (sym (has_place-word words k)) where
      at : k / 64 ≡ number
          → is_bit (slice_index_or (slice_set words number (bit_or (slice_index_or words number 0) word)) (k / 64) 0) (k % 64)
          ≡ (is_bit (slice_index_or words (k / 64) 0) (k % 64) || ((k / 64 == number) && test k))
      at same =
          let yes : (k / 64 == number) ≡ true = grind (arith, nat_tests) in
          let read : slice_index_or (slice_set words number (bit_or (slice_index_or words number 0) word)) (k / 64) 0
          ≡ bit_or (slice_index_or words number 0) word = grind (arith, common_steps) in
          let index : 64 * number + k % 64 ≡ k = omega arith in
          let tested : is_bit word (k % 64) ≡ test k = bits (k % 64) (omega arith) ∙ ap test index in
          ap (λ w. is_bit w (k % 64)) read ∙ is_bit-or (slice_index_or words number 0) word (k % 64)
          ∙ ap (λ b. is_bit (slice_index_or words number 0) (k % 64) || b) tested
          ∙ ap (λ n. is_bit (slice_index_or words n 0) (k % 64) || test k) (sym same)
          ∙ ap (λ b. is_bit (slice_index_or words (k / 64) 0) (k % 64) || (b && test k)) (sym yes)

      other : k / 64 ≢ number
          → is_bit (slice_index_or (slice_set words number (bit_or (slice_index_or words number 0) word)) (k / 64) 0) (k % 64)
          ≡ (is_bit (slice_index_or words (k / 64) 0) (k % 64) || ((k / 64 == number) && test k))
      other not_same =
          let no : (k / 64 == number) ≡ false = grind (arith, nat_tests) in
          let read : slice_index_or (slice_set words number (bit_or (slice_index_or words number 0) word)) (k / 64) 0
          ≡ slice_index_or words (k / 64) 0 = grind (arith, common_steps) in
          ap (λ w. is_bit w (k % 64)) read ∙ sym (or-false _)
          ∙ ap (λ b. is_bit (slice_index_or words (k / 64) 0) (k % 64) || (b && test k)) (sym no)

-- a place alone: the test of its word adds nothing
pub alone : (t : Bool) (n k : ℕ) → ((k / 64 == n / 64) && (t && (k == n))) ≡ (t && (k == n))
alone t n k = ⊎_elim
    (λ (same : k ≡ n). let yes : (k / 64 == n / 64) ≡ true = grind (arith, nat_tests) in ap (λ b. b && (t && (k == n))) yes)
    (λ (not_same : k ≢ n). let no : (k == n) ≡ false = grind (arith, nat_tests) in by_no (k / 64 == n / 64) t (k == n) no)
    (cases_eq k n) where
      by_no : (a b c : Bool) → c ≡ false → (a && (b && c)) ≡ (b && c)
      by_no a b c none = grind (arith, nat_tests)

-- the bit of a place in its word
pub alone_bit : (t : Bool) (n j : ℕ) → j < 64 → (t && (j == n % 64)) ≡ (t && (64 * (n / 64) + j == n))
alone_bit t n j low =
    let same : (j == n % 64) ≡ (64 * (n / 64) + j == n) = grind (arith, nat_tests) in
    ap (λ b. t && b) same

-- the rows that are in before a word, and with it
abbrev pub is_in_before : ℕ → ℕ → ℕ → ℕ → Bool
is_in_before number first bits k = nat_lt k (64 * number) && is_in_run first bits k

pub before_first : (first bits k : ℕ) → is_in_before (first / 64) first bits k ≡ false
before_first first bits k = ⊎_elim
    (λ (low : k < 64 * (first / 64)). let no : nat_le first k ≡ false = grind (arith, nat_tests) in
    ap (λ b. nat_lt k (64 * (first / 64)) && (b && is_bit bits (k - first))) no ∙ and-false _)
    (λ high. let no : nat_lt k (64 * (first / 64)) ≡ false = grind (arith, nat_tests) in ap (λ b. b && is_in_run first bits k) no)
    (cases_lt k (64 * (first / 64)))

pub before_next :
    (number k : ℕ) (r old start now : Bool) → now ≡ (old || ((k / 64 == number) && r))
    → old ≡ (start || (nat_lt k (64 * number) && r)) → now ≡ (start || (nat_lt k (64 * (number + 1)) && r))
before_next number k r old start now e f =
    let next : nat_lt k (64 * (number + 1)) ≡ (nat_lt k (64 * number) || (k / 64 == number)) = grind (arith, nat_tests) in
    by
    (nat_lt k (64 * number))
    (k / 64 == number)
    (nat_lt k (64 * (number + 1)))
    r
    start
    next
    (e ∙ ap (λ b. b || ((k / 64 == number) && r)) f) where
      by : (b c d r s : Bool) → d ≡ (b || c) → now ≡ ((s || (b && r)) || (c && r)) → now ≡ (s || (d && r))
      by b c d r s next e = grind (arith, nat_tests)

-- at the end the row is in as far as there are places
pub before_last : (number first bits k : ℕ) → bits < 2 ^ 128 → (31 ≤ number) ⊎ (first / 64 + 3 ≤ number) → number ≤ 31
    → is_in_before number first bits k ≡ (nat_lt k 1984 && is_in_run first bits k)
before_last number first bits k small end le = by (nat_lt k (64 * number)) (nat_lt k 1984) (is_in_run first bits k) agree where
  by : (b c r : Bool) → (r ≡ true → b ≡ c) → (b && r) ≡ (c && r)
  by b c true agree = ap (λ a. a && true) (agree refl)
  by b c false agree = and-false b ∙ sym (and-false c)

  past_bits : first + 128 ≤ k → is_in_run first bits k ≡ false
  past_bits past =
      let none : is_bit bits (k - first) ≡ false = is_bit-above bits 128 (k - first) small (omega arith) in
      ap (λ b. nat_le first k && b) none ∙ and-false _

  agree : is_in_run first bits k ≡ true → nat_lt k (64 * number) ≡ nat_lt k 1984
  agree at = ⊎_elim
      (λ (near : k < first + 128). let bounds = end in grind (arith, nat_tests))
      (λ far. let none = past_bits (omega arith) in cc)
      (cases_lt k (first + 128))

-- the bits of a row that a word brings

pub run_next : (words : List ℕ) (number k : ℕ) → slice_index_or words number 0 < 2 ^ 64
    → (nat_lt k (64 * (number + 1)) && has_place words k)
    ≡ ((nat_lt k (64 * number) && has_place words k) || is_in_run (64 * number) (slice_index_or words number 0) k)
run_next words number k small = ⊎_elim below from (cases_lt k (64 * number)) where
  below : k < 64 * number → (nat_lt k (64 * (number + 1)) && has_place words k)
      ≡ ((nat_lt k (64 * number) && has_place words k) || is_in_run (64 * number) (slice_index_or words number 0) k)
  below low =
      let a : nat_lt k (64 * (number + 1)) ≡ true = grind (arith, nat_tests) in
      let b : nat_lt k (64 * number) ≡ true = grind (arith, nat_tests) in
      let c : nat_le (64 * number) k ≡ false = grind (arith, nat_tests) in
      tests _ _ _ (has_place words k) (is_bit (slice_index_or words number 0) (k - 64 * number)) a b c where
        tests : (a b c h i : Bool) → a ≡ true → b ≡ true → c ≡ false → (a && h) ≡ ((b && h) || (c && i))
        tests a b c h i p q r = grind (arith, nat_tests)

  from : 64 * number ≤ k → (nat_lt k (64 * (number + 1)) && has_place words k)
      ≡ ((nat_lt k (64 * number) && has_place words k) || is_in_run (64 * number) (slice_index_or words number 0) k)
  from high = ⊎_elim
      (λ (here : k < 64 * (number + 1)).
      let a : nat_lt k (64 * (number + 1)) ≡ true = grind (arith, nat_tests) in
      let b : nat_lt k (64 * number) ≡ false = grind (arith, nat_tests) in
      let c : nat_le (64 * number) k ≡ true = grind (arith, nat_tests) in
      let d : k / 64 ≡ number = omega arith in
      let e : k % 64 ≡ k - 64 * number = omega arith in
      let at : has_place words k ≡ is_bit (slice_index_or words number 0) (k - 64 * number) =
      has_place-word words k ∙ ap (λ n. is_bit (slice_index_or words n 0) (k % 64)) d
      ∙ ap (is_bit (slice_index_or words number 0)) e in
      in_word _ _ _ _ _ a b c at)
      (λ past.
      let a : nat_lt k (64 * (number + 1)) ≡ false = grind (arith, nat_tests) in
      let b : nat_lt k (64 * number) ≡ false = grind (arith, nat_tests) in
      let none : is_bit (slice_index_or words number 0) (k - 64 * number) ≡ false =
      is_bit-above (slice_index_or words number 0) 64 (k - 64 * number) small (omega arith) in
      past_word _ _ (nat_le (64 * number) k) (has_place words k) _ a b none)
      (cases_lt k (64 * (number + 1))) where
        in_word : (a b c h i : Bool) → a ≡ true → b ≡ false → c ≡ true → h ≡ i → (a && h) ≡ ((b && h) || (c && i))
        in_word a b c h i p q r s = grind (arith, nat_tests)

        past_word : (a b c h i : Bool) → a ≡ false → b ≡ false → i ≡ false → (a && h) ≡ ((b && h) || (c && i))
        past_word a b c h i p q r = grind (arith, nat_tests)

-- the bits of a row that words up to one have brought
abbrev pub read_before : List ℕ → ℕ → ℕ → ℕ → Bool
read_before words first number k = nat_lt k 128 && (nat_lt (first + k) (64 * number) && has_place words (first + k))

pub read_first : (words : List ℕ) (first k : ℕ) → is_bit 0 k ≡ read_before words first (first / 64) k
read_first words first k =
    let none : nat_lt (first + k) (64 * (first / 64)) ≡ false = grind (arith, nat_tests) in
    is_bit-zero k ∙ sym (ap (λ b. nat_lt k 128 && (b && has_place words (first + k))) none ∙ and-false _)

pub read_next : (words : List ℕ) (first number bits part k : ℕ) → slice_index_or words number 0 < 2 ^ 64 → part < 2 ^ 128
    → (k < 128 → is_bit part k ≡ is_in_run (64 * number) (slice_index_or words number 0) (first + k))
    → is_bit bits k ≡ read_before words first number k
    → is_bit (bit_or bits part) k ≡ read_before words first (number + 1) k
read_next words first number bits part k small small_part at before = is_bit-or bits part k ∙ ⊎_elim
    (λ (low : k < 128).
    let yes : nat_lt k 128 ≡ true = grind (arith, nat_tests) in
    let next = run_next words number (first + k) small in
    let here = at low in
    by _ _ _ _ _ _ yes before here next)
    (λ high.
    let no_place : nat_lt k 128 ≡ false = grind (arith, nat_tests) in
    let none = is_bit-above part 128 k small_part (omega arith) in
    by_none _ _ _ _ _ no_place none before)
    (cases_lt k 128) where
      by : (t a p q r s : Bool) → t ≡ true → a ≡ (t && q) → p ≡ r → s ≡ (q || r) → (a || p) ≡ (t && s)
      by t a p q r s e f g h = grind (arith, nat_tests)

      by_none : (t a p q s : Bool) → t ≡ false → p ≡ false → a ≡ (t && q) → (a || p) ≡ (t && s)
      by_none t a p q s e f g = grind (arith, nat_tests)

pub read_last : (words : List ℕ) (first number bits k : ℕ) → length words ≡ 31
    → (31 ≤ number) ⊎ (first / 64 + 3 ≤ number)
    → is_bit bits k ≡ read_before words first number k
    → is_bit bits k ≡ (nat_lt k 128 && has_place words (first + k))
read_last words first number bits k long end before = before ∙ ⊎_elim
    (λ (inside : first + k < 64 * number).
    let yes : nat_lt (first + k) (64 * number) ≡ true = grind (arith, nat_tests) in
    ap (λ b. nat_lt k 128 && (b && has_place words (first + k))) yes)
    (λ outside. ⊎_elim
    (λ (past : 31 ≤ number).
    let none : has_place words (first + k) ≡ false = has_place-past words (first + k) (omega arith) in
    by_none _ (nat_lt (first + k) (64 * number)) _ none)
    (λ (far : first / 64 + 3 ≤ number).
    let none : nat_lt k 128 ≡ false = grind (arith, nat_tests) in
    ap (λ b. b && (nat_lt (first + k) (64 * number) && has_place words (first + k))) none
    ∙ sym (ap (λ b. b && has_place words (first + k)) none))
    end)
    (cases_lt (first + k) (64 * number)) where
      by_none : (t a h : Bool) → h ≡ false → (t && (a && h)) ≡ (t && h)
      by_none t a h e = grind (arith, nat_tests)

-- a row of three words side by side
pub read_three : (words : List ℕ) (first a b c k : ℕ) → length words ≡ 31
    → ((number : ℕ) → slice_index_or words number 0 < 2 ^ 64) → a < 2 ^ 128 → b < 2 ^ 128 → c < 2 ^ 128
    → (k < 128 → is_bit a k ≡ is_in_run (64 * (first / 64)) (slice_index_or words (first / 64) 0) (first + k))
    → (k < 128 → is_bit b k ≡ is_in_run (64 * (first / 64 + 1)) (slice_index_or words (first / 64 + 1) 0) (first + k))
    → (k < 128 → is_bit c k ≡ is_in_run (64 * (first / 64 + 2)) (slice_index_or words (first / 64 + 2) 0) (first + k))
    → is_bit (bit_or (bit_or a b) c) k ≡ (nat_lt k 128 && has_place words (first + k))
read_three words first a b c k long small small_a small_b small_c at_a at_b at_c =
    let from : ℕ = first / 64 in
    let start = read_next words first from 0 a k (small from) small_a at_a (read_first words first k) in
    let one : is_bit a k ≡ read_before words first (from + 1) k =
    sym (is_bit-or 0 a k ∙ ap (λ t. t || is_bit a k) (is_bit-zero k)) ∙ start in
    let second : first / 64 + 1 + 1 ≡ first / 64 + 2 = omega arith in
    let third : first / 64 + 2 + 1 ≡ first / 64 + 3 = omega arith in
    let two = read_next words first (from + 1) a b k (small (from + 1)) small_b at_b one
    ∙ ap (λ n. read_before words first n k) second in
    let three = read_next words first (from + 2) (bit_or a b) c k (small (from + 2)) small_c at_c two
    ∙ ap (λ n. read_before words first n k) third in
    read_last words first (from + 3) (bit_or (bit_or a b) c) k long (inr (omega arith)) three

-- no word, no part of a row
pub part_past : (words : List ℕ) (number to k : ℕ) → length words ≤ number
    → is_bit 0 k ≡ is_in_run (64 * number) (slice_index_or words number 0) (to + k)
part_past words number to k past =
    let none : is_bit (slice_index_or words number 0) (to + k - 64 * number) ≡ false =
    none_set (slice_index_or words number 0) (get_or_past words number 0 past) (to + k - 64 * number) in
    is_bit-zero k ∙ sym (ap (λ b. nat_le (64 * number) (to + k) && b) none ∙ and-false _)

-- words of zeros have no place
pub has_place-zeros : (n k : ℕ) → has_place (replicate n 0) k ≡ false
has_place-zeros n k =
    let zero : slice_index_or (replicate n 0) (k / 64) 0 ≡ 0 = grind (arith, common_steps, get_or-replicate, get_or_past) in
    has_place-word (replicate n 0) k ∙ ap (λ w. is_bit w (k % 64)) zero ∙ is_bit-zero (k % 64)

-- the bits of a word of a set
pub word_bits : (words : List ℕ) (number j : ℕ) → j < 64
    → is_bit (slice_index_or words number 0) j ≡ has_place words (64 * number + j)
word_bits words number j low =
    let at : (64 * number + j) / 64 ≡ number = omega arith in
    let bit : (64 * number + j) % 64 ≡ j = omega arith in
    sym (has_place-word words (64 * number + j) ∙ ap (λ n. is_bit (slice_index_or words n 0) ((64 * number + j) % 64)) at
    ∙ ap (is_bit (slice_index_or words number 0)) bit)

-- two sets whose words so far have no bit in common, while none was found
pub none-more : (one other : List ℕ) (number both : ℕ)
    → (both ≡ 0 → (k : ℕ) → k < number → bit_and (slice_index_or one k 0) (slice_index_or other k 0) ≡ 0)
    → bit_or both (bit_and (slice_index_or one number 0) (slice_index_or other number 0)) ≡ 0
    → (k : ℕ) → k < number + 1 → bit_and (slice_index_or one k 0) (slice_index_or other k 0) ≡ 0
none-more one other number both before none k low =
    let word = bit_and (slice_index_or one number 0) (slice_index_or other number 0) in
    let left = le_or_l both word in
    let right = le_or_r both word in
    elim (cases_lt k number) [
      | inl less ↦ before (omega (arith, left, none)) k less
      | inr more ↦ let same : k ≡ number = omega (arith, low, more) in rw same (omega (arith, right, none))
    ]

-- sets whose words have no bit in common have no place in common
pub apart-words : (one other : List ℕ)
    → ((k : ℕ) → k < length one → bit_and (slice_index_or one k 0) (slice_index_or other k 0) ≡ 0)
    → (place : ℕ) → has_place one place ≡ true → has_place other place ≡ false
apart-words one other none place at = by (cases_lt (place / 64) (length one)) where
  by : (place / 64 < length one) ⊎ (length one ≤ place / 64) → has_place other place ≡ false
  by (inl low) =
      has_place-word other place
      ∙ both _ _ (sym (has_place-word one place) ∙ at)
      (sym (is_bit-and (slice_index_or one (place / 64) 0) (slice_index_or other (place / 64) 0) (place % 64))
      ∙ none_set _ (none (place / 64) low) (place % 64)) where
        both : (a b : Bool) → a ≡ true → (a && b) ≡ false → b ≡ false
        both a b e f = grind (arith, nat_tests, e, f)
  by (inr high) = absurd (false≢true (sym (has_place-past one place (omega (arith, high))) ∙ at))

-- sets of which a word has a bit in common have a place in common
common-word : (one other : List ℕ) (number : ℕ) → slice_index_or one number 0 < 2 ^ 64
    → bit_and (slice_index_or one number 0) (slice_index_or other number 0) ≢ 0 → ShareAPlace one other
common-word one other number small some =
    let word : ℕ = bit_and (slice_index_or one number 0) (slice_index_or other number 0) in
    let low = and_le_l (slice_index_or one number 0) (slice_index_or other number 0) in
    let lowest = lowest_bit word (omega (arith, some)) (omega (arith, small, low)) in
    let bit : ℕ = trailing_zeros w64 word in
    let both = and_parts (is_bit (slice_index_or one number 0) bit) _
    (sym (is_bit-and (slice_index_or one number 0) (slice_index_or other number 0) bit) ∙ lowest.1) in
    (64 * number + bit, sym (word_bits one number bit lowest.0) ∙ both.0, sym (word_bits other number bit lowest.0) ∙ both.1)

-- once a bit is found in a word of both sets, they have a place in common
pub common-more : (one other : List ℕ) (number both : ℕ) → slice_index_or one number 0 < 2 ^ 64 → (both ≢ 0 → ShareAPlace one other)
    → bit_or both (bit_and (slice_index_or one number 0) (slice_index_or other number 0)) ≢ 0 → ShareAPlace one other
common-more one other number both small before some =
    elim (cases_lt both 1) [
      | inl none ↦ common-word one other number small (λ empty. some (neither both _ (omega (arith, none)) empty))
      | inr more ↦ before (omega (arith, more))
    ] where
      neither : (a b : ℕ) → a ≡ 0 → b ≡ 0 → bit_or a b ≡ 0
      neither a b e f = rw (e, f) refl
