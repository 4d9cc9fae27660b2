-- Stored sets, asked by the numbers of hubs, against the places of their words.
use Rattle.std.proofs.Common.{⊎_elim, ◌≡◌, ◌≢◌, ◌∙◌, sym, ap, ℕ, ◌+◌, ◌-◌, ◌/◌, ◌%◌, ◌<◌, ◌≤◌, ◌&&◌, ◌||◌, Bool, true, false, List, Option, Some, None, refl, arith, length, replicate, slice_index_or, slice_set}
use Rattle.std.specs.Prelude.{◌==◌, nat_le, nat_lt}
use Rattle.std.specs.Int.Bits.{bit_and}
use Rattle.std.proofs.lemmas.Bool.{cases_eq}
use Rattle.std.proofs.lemmas.Bool.Decides.{nat_tests}
use Rattle.std.proofs.lemmas.Grind.{common_steps}
use Rattle.std.proofs.Math.Bool.{and-false, and-true}
use Rattle.machine_sets.specs.BitSets.Bits.{GainsPlaces, has_place, is_in_run}
use Rattle.machine_sets.proofs.BitSets.BitLemmas.{is_bit-and, is_bit-ones}
use Rattle.machine_sets.proofs.BitSets.PlaceLemmas.{has_place-past, has_place-word, has_place-zeros}
use Rattle.net.specs.HubSets.{HoldsHubsAlone, HubSet, has_number, is_bit, is_bit_from, is_near, is_same_number}

-- the numbers of hubs are 1 to 1936
abbrev pub IsHubNumber : Option ℕ → Type 0
IsHubNumber given = (number : ℕ) → given ≡ Some number → (1 ≤ number) × (number ≤ 1936)

-- a set of zeros has no hub
pub has_number-zeros : (n : ℕ) (given : Option ℕ) → has_number (record { words = replicate n 0 }) given ≡ false
has_number-zeros n (Some number) = has_place-zeros n (number - 1)
has_number-zeros n None = refl

-- The last word of a set, cut to the bits of hubs: bit 15 is the last hub's.
abbrev pub cut : List ℕ → List ℕ
cut words = slice_set words 30 (bit_and (slice_index_or words 30 0) 65535)

-- what a place of the last word is, once that word is cut
cut_here : (words : List ℕ) (k : ℕ) → length words ≡ 31 → k / 64 ≡ 30
    → has_place (cut words) k ≡ (has_place words k && nat_lt (k % 64) 16)
cut_here words k long here =
    let read : slice_index_or (cut words) (k / 64) 0 ≡ bit_and (slice_index_or words (k / 64) 0) 65535 =
    grind (arith, common_steps) in
    has_place-word (cut words) k ∙ ap (λ w. is_bit w (k % 64)) read
    ∙ is_bit-and (slice_index_or words (k / 64) 0) 65535 (k % 64)
    ∙ ap (λ b. is_bit (slice_index_or words (k / 64) 0) (k % 64) && b) (is_bit-ones 16 (k % 64))
    ∙ ap (λ b. b && nat_lt (k % 64) 16) (sym (has_place-word words k))

-- a set that is cut holds hubs alone
pub HoldsHubsAlone-cut : (words : List ℕ) → length words ≡ 31 → HoldsHubsAlone (cut words)
HoldsHubsAlone-cut words long k past = ⊎_elim here after (cases_eq (k / 64) 30) where
  here : k / 64 ≡ 30 → has_place (cut words) k ≡ false
  here last =
      let no : nat_lt (k % 64) 16 ≡ false = grind (arith, nat_tests) in
      cut_here words k long last ∙ ap (λ b. has_place words k && b) no ∙ and-false _

  after : k / 64 ≢ 30 → has_place (cut words) k ≡ false
  after other =
      let same : length (cut words) ≡ 31 = grind (arith, common_steps) in
      has_place-past (cut words) k (omega (arith, same))

-- and has the hubs that it had
pub cut-kept : (words : List ℕ) → length words ≡ 31 → (k : ℕ) → k < 1936 → has_place (cut words) k ≡ has_place words k
cut-kept words long k low = ⊎_elim here elsewhere (cases_eq (k / 64) 30) where
  here : k / 64 ≡ 30 → has_place (cut words) k ≡ has_place words k
  here last =
      let yes : nat_lt (k % 64) 16 ≡ true = grind (arith, nat_tests) in
      cut_here words k long last ∙ ap (λ b. has_place words k && b) yes ∙ and-true _

  elsewhere : k / 64 ≢ 30 → has_place (cut words) k ≡ has_place words k
  elsewhere other =
      let read : slice_index_or (cut words) (k / 64) 0 ≡ slice_index_or words (k / 64) 0 = grind (arith, common_steps) in
      has_place-word (cut words) k ∙ ap (λ w. is_bit w (k % 64)) read ∙ sym (has_place-word words k)

-- The three facts on a place put in, a row put in and a row read, where the number of the first hub was found.

pub put_at :
    (old new : List ℕ) (seen : HubSet) (n : ℕ) (named given : Option ℕ) (test : Bool) → record { words = old } ≡ seen
    → Some n ≡ named → 1 ≤ n → IsHubNumber given → GainsPlaces (λ k. test && (k == n - 1)) old new
    → has_number (record { words = new }) given ≡ (has_number seen given || (test && is_same_number named given))
put_at old new seen n named given test same is from ranged gains =
    by given ranged
    ∙ ap (λ (set : HubSet). has_number set given || (test && is_same_number (Some n) given)) same
    ∙ ap (λ number. has_number seen given || (test && is_same_number number given)) is where
      by : (given : Option ℕ) → IsHubNumber given
          → has_number (record { words = new }) given
          ≡ (has_number (record { words = old }) given || (test && is_same_number (Some n) given))
      by (Some m) ranged =
          let range = ranged m refl in
          let e : (m - 1 == n - 1) ≡ (n == m) = grind (arith, nat_tests) in
          gains (m - 1) ∙ ap (λ b. has_place old (m - 1) || (test && b)) e
      by None ranged = grind (arith, nat_tests)

pub row_gained_at :
    (old put new : List ℕ) (seen : HubSet) (n bits : ℕ) (named given : Option ℕ) → record { words = old } ≡ seen
    → Some n ≡ named → 1 ≤ n → IsHubNumber given
    → GainsPlaces (λ k. nat_lt k 1984 && is_in_run (n - 1) bits k) old put
    → ((k : ℕ) → k < 1936 → has_place new k ≡ has_place put k)
    → has_number (record { words = new }) given ≡ (has_number seen given || is_bit_from named bits given)
row_gained_at old put new seen n bits named given same is from ranged gains kept =
    by given ranged
    ∙ ap (λ (set : HubSet). has_number set given || is_bit_from (Some n) bits given) same
    ∙ ap (λ number. has_number seen given || is_bit_from number bits given) is where
      by : (given : Option ℕ) → IsHubNumber given
          → has_number (record { words = new }) given
          ≡ (has_number (record { words = old }) given || is_bit_from (Some n) bits given)
      by (Some m) ranged =
          let range = ranged m refl in
          let near : nat_lt (m - 1) 1984 ≡ true = grind (arith, nat_tests) in
          let e : nat_le (n - 1) (m - 1) ≡ nat_le n m = grind (arith, nat_tests) in
          let f : m - 1 - (n - 1) ≡ m - n = omega arith in
          kept (m - 1) (omega (arith, range.0, range.1)) ∙ gains (m - 1)
          ∙ ap (λ b. has_place old (m - 1) || (b && is_in_run (n - 1) bits (m - 1))) near
          ∙ ap (λ b. has_place old (m - 1) || (b && is_bit bits (m - 1 - (n - 1)))) e
          ∙ ap (λ i. has_place old (m - 1) || (nat_le n m && is_bit bits i)) f
      by None ranged = grind (arith, nat_tests)

pub row_read_at :
    (words : List ℕ) (seen : HubSet) (n bits : ℕ) (named given : Option ℕ) → record { words = words } ≡ seen
    → Some n ≡ named → 1 ≤ n → ((k : ℕ) → is_bit bits k ≡ (nat_lt k 128 && has_place words (n - 1 + k)))
    → is_near named given ≡ true → is_bit_from named bits given ≡ has_number seen given
row_read_at words seen n bits named given same is from read near =
    ap (λ number. is_bit_from number bits given) (sym is)
    ∙ by given (ap (λ number. is_near number given) is ∙ near)
    ∙ ap (λ (set : HubSet). has_number set given) same where
      by : (given : Option ℕ) → is_near (Some n) given ≡ true
          → is_bit_from (Some n) bits given ≡ has_number (record { words = words }) given
      by (Some m) near =
          let e : nat_le n m ≡ true = grind (arith, nat_tests, near) in
          let f : nat_lt (m - n) 128 ≡ true = grind (arith, nat_tests, near) in
          let le : n ≤ m = grind (arith, nat_tests, near) in
          let g : n - 1 + (m - n) ≡ m - 1 = omega arith in
          ap (λ b. b && is_bit bits (m - n)) e ∙ read (m - n)
          ∙ ap (λ b. b && has_place words (n - 1 + (m - n))) f ∙ ap (has_place words) g
      by None near = cc

-- a row that was read has no bit after that of the last hub
pub row_cut_at :
    (words : List ℕ) (n bits : ℕ) (named : Option ℕ) (number k : ℕ) → Some n ≡ named → named ≡ Some number → 1 ≤ n
    → HoldsHubsAlone words → ((k : ℕ) → is_bit bits k ≡ (nat_lt k 128 && has_place words (n - 1 + k)))
    → 1936 < number + k → is_bit bits k ≡ false
row_cut_at words n bits named number k is and_is from alone read after =
    let same : n ≡ number = cc in
    read k ∙ ap (λ b. nat_lt k 128 && b) (alone (n - 1 + k) (omega (arith, same, from, after))) ∙ and-false _
