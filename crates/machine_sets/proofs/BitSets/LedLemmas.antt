-- What rows lead to, gained one row after another.
use Rattle.std.proofs.Common.{⊎_elim, inl, inr, ◌≡◌, ℕ, ◌+◌, ◌-◌, ◌*◌, ◌/◌, ◌%◌, ◌^◌, ◌<◌, ◌≤◌, ◌∙◌, sym, ap, refl, arith, Bool, true, false, not, ◌&&◌, ◌||◌, List, [], length, slice_index_or, replicate}
use Rattle.std.specs.Prelude.{nat_le, nat_lt, ◌==◌}
use Rattle.std.specs.Int.{bit_not, w64}
use Rattle.std.specs.Int.Bits.{bit_and}
use Rattle.std.proofs.lemmas.Bool.Decides.{nat_tests}
use Rattle.std.proofs.lemmas.Bool.{cases_lt, false≢true, and_parts, and_from, or_right, or_left, or_cases, eq-eqb, leb-true, ltb-true}
use Rattle.std.proofs.lemmas.List.{get_or_past, get_or-replicate, length-replicate}
use Rattle.std.proofs.Math.Bool.{and-false}
use Rattle.machine_sets.specs.BitSets.Bits.{is_bit, has_place, is_in_run}
use Rattle.machine_sets.specs.BitSets.Rows.{GainsLed, is_in_entries, is_in_words, leads}
use Rattle.machine_sets.proofs.BitSets.BitLemmas.{is_bit-and, is_bit-shr, is_bit-taken, is_bit-above, none_set}
use Rattle.machine_sets.proofs.BitSets.PlaceLemmas.{has_place-past, has_place-zeros, word_bits}

-- whether a place is one of a word's bits, and no longer one of those that are left
abbrev pub is_done : ℕ → ℕ → ℕ → ℕ → Bool
is_done first bits left place = is_in_run first bits place && not (is_in_run first left place)

module _ (rows : List (List ℕ)) where
  -- where no place of the test leads anywhere
  pub GainsLed-none : (test : ℕ → Bool) (words : List ℕ)
      → ((from to : ℕ) → test from ≡ true → leads rows from to ≡ true → ⊥) → GainsLed rows test words words
  GainsLed-none test words none = record {
    kept = λ place held. held;
    led = λ from to at leads. absurd (none from to at leads);
    only = λ to held. inl held;
    last = λ from to next at leads. absurd (none from to at leads);
  }

  -- one test after another
  pub GainsLed-then : (one other : ℕ → Bool) (old now new : List ℕ) → GainsLed rows one old now → GainsLed rows other now new
      → GainsLed rows (λ place. one place || other place) old new
  GainsLed-then one other old now new first then = record {
    kept = λ place held. then.kept place (first.kept place held);
    led = λ from to at leads.
        ⊎_elim (λ at_one. then.kept to (first.led from to at_one leads)) (λ at_other. then.led from to at_other leads)
        (or_cases (one from) (other from) at);
    only = λ to held. ⊎_elim
        (λ at_now. ⊎_elim (λ at_old. inl at_old) (λ by_one. inr (by_one.0, or_left _ _ by_one.1, by_one.2)) (first.only to at_now))
        (λ by_other. inr (by_other.0, or_right (one by_other.0) _ by_other.1, by_other.2))
        (then.only to held);
    last = λ from to next at leads.
        ⊎_elim (λ at_one. first.last from to next at_one leads) (λ at_other. then.last from to next at_other leads)
        (or_cases (one from) (other from) at);
  }

  -- a test that is true of the same places with a row
  pub GainsLed-like : (one other : ℕ → Bool) (old new : List ℕ)
      → ((from to : ℕ) → other from ≡ true → leads rows from to ≡ true → one from ≡ true)
      → ((from : ℕ) → one from ≡ true → other from ≡ true) → GainsLed rows one old new → GainsLed rows other old new
  GainsLed-like one other old new back forth gains = record {
    kept = gains.kept;
    led = λ from to at leads. gains.led from to (back from to at leads) leads;
    only = λ to held. ⊎_elim (λ at_old. inl at_old) (λ by. inr (by.0, forth by.0 by.1, by.2)) (gains.only to held);
    last = λ from to next at leads. gains.last from to next (back from to at leads) leads;
  }

  -- a place past the rows leads nowhere
  pub leads-past : (from to : ℕ) → length rows ≤ from → leads rows from to ≡ false
  leads-past from to past =
      let none : slice_index_or rows from [] ≡ [] = get_or_past rows from [] past in
      ap (λ (row : List ℕ). is_in_entries row to) none
      ∙ ap (λ b. nat_le 1024 to && b) (has_place-past [] (to - 1024) (omega arith)) ∙ and-false _

  -- a place past the rows brings nothing
  pub GainsLed-past : (from : ℕ) (words : List ℕ) → length rows ≤ from → GainsLed rows (λ place. place == from) words words
  GainsLed-past from words past =
      GainsLed-none (λ place. place == from) words
      (λ place to at leads. let same : place ≡ from = grind (arith, nat_tests, at) in
      false≢true (sym (leads-past place to (omega (arith, same, past))) ∙ leads))

  -- the row of one place
  pub GainsLed-row : (from : ℕ) (row old new : List ℕ) → slice_index_or rows from [] ≡ row
      → ((to next : ℕ) → leads rows from to ≡ true → leads rows to next ≡ false)
      → ((place : ℕ) → has_place new place ≡ (has_place old place || is_in_entries row place))
      → GainsLed rows (λ place. place == from) old new
  GainsLed-row from row old new is last joined = record {
    kept = λ place held. joined place ∙ or_left _ _ held;
    led = λ place to at leads.
        let same : place ≡ from = grind (arith, nat_tests, at) in
        joined to ∙ or_right (has_place old to) _ (of_row place to same leads);
    only = λ to held. ⊎_elim
        (λ at_old. inl at_old)
        (λ at_row. inr (from, (eq-eqb from from refl), ap (λ (r : List ℕ). is_in_entries r to) is ∙ at_row))
        (or_cases (has_place old to) (is_in_entries row to) (sym (joined to) ∙ held));
    last = λ place to next at leads_on.
        let same : place ≡ from = grind (arith, nat_tests, at) in
        last to next (ap (λ n. leads rows n to) (sym same) ∙ leads_on);
  } where
    of_row : (place to : ℕ) → place ≡ from → leads rows place to ≡ true → is_in_entries row to ≡ true
    of_row place to same at =
        sym (ap (λ n. leads rows n to) same ∙ ap (λ (r : List ℕ). is_in_entries r to) is) ∙ at

  pub GainsLed-start : (first bits : ℕ) (words : List ℕ) → GainsLed rows (is_done first bits bits) words words
  GainsLed-start first bits words = GainsLed-none (is_done first bits bits) words (λ from to at leads. never _ at) where
    never : (a : Bool) → (a && not a) ≡ true → ⊥
    never true e = cc
    never false e = cc

  pub GainsLed-bit : (first bits left bit : ℕ) (old now new : List ℕ) → bit < 64 → left < 2 ^ 64 → is_bit left bit ≡ true
      → ((j : ℕ) → is_bit left j ≡ true → is_bit bits j ≡ true) → GainsLed rows (is_done first bits left) old now
      → GainsLed rows (λ place. place == first + bit) now new
      → GainsLed rows (is_done first bits (bit_and left (bit_not w64 (1 * 2 ^ bit % 2 ^ 64)))) old new
  GainsLed-bit first bits left bit old now new low small at within done gains =
      GainsLed-like (λ place. is_done first bits left place || (place == first + bit))
      (is_done first bits (bit_and left (bit_not w64 (1 * 2 ^ bit % 2 ^ 64)))) old new
      (λ from to is leads. back (nat_le first from) (is_bit bits (from - first)) (is_bit left (from - first))
      (is_bit (bit_and left (bit_not w64 (1 * 2 ^ bit % 2 ^ 64))) (from - first)) (from - first == bit)
      (from == first + bit) (taken (from - first)) (at_bit from) is)
      (λ from is. forth (nat_le first from) (is_bit bits (from - first)) (is_bit left (from - first))
      (is_bit (bit_and left (bit_not w64 (1 * 2 ^ bit % 2 ^ 64))) (from - first)) (from - first == bit)
      (from == first + bit) (taken (from - first)) (at_bit from) (here (from - first)) is)
      (GainsLed-then (is_done first bits left) (λ place. place == first + bit) old now new done gains) where
        taken : (j : ℕ) → is_bit (bit_and left (bit_not w64 (1 * 2 ^ bit % 2 ^ 64))) j ≡ (is_bit left j && not (j == bit))
        taken j = ⊎_elim
            (λ (near : j < 64). is_bit-taken left bit j low near)
            (λ far.
            let none : is_bit left j ≡ false = is_bit-above left 64 j small (omega arith) in
            is_bit-and left (bit_not w64 (1 * 2 ^ bit % 2 ^ 64)) j
            ∙ ap (λ b. b && is_bit (bit_not w64 (1 * 2 ^ bit % 2 ^ 64)) j) none ∙ ap (λ b. b && not (j == bit)) (sym none))
            (cases_lt j 64)

        at_bit : (from : ℕ) → (from == first + bit) ≡ (nat_le first from && (from - first == bit))
        at_bit from = grind (arith, nat_tests)

        here : (j : ℕ) → (j == bit) ≡ true → is_bit bits j ≡ true
        here j is =
            let same : j ≡ bit = grind (arith, nat_tests, is) in
            within j (ap (is_bit left) same ∙ at)

        back : (b B L L' J F : Bool) → L' ≡ (L && not J) → F ≡ (b && J) → ((b && B) && not (b && L')) ≡ true
            → (((b && B) && not (b && L)) || F) ≡ true
        back b B L L' J F e f g = grind (arith, nat_tests)

        forth : (b B L L' J F : Bool) → L' ≡ (L && not J) → F ≡ (b && J) → (J ≡ true → B ≡ true)
            → (((b && B) && not (b && L)) || F) ≡ true → ((b && B) && not (b && L')) ≡ true
        forth true B L L' true F e f g h = let is = g refl in grind (arith, nat_tests)
        forth true B L L' false F e f g h = grind (arith, nat_tests)
        forth false B L L' J F e f g h = grind (arith, nat_tests)

  -- no bit is left
  pub GainsLed-word : (first bits left : ℕ) (old new : List ℕ) → left ≡ 0 → GainsLed rows (is_done first bits left) old new
      → GainsLed rows (is_in_run first bits) old new
  GainsLed-word first bits left old new none gains =
      GainsLed-like (is_done first bits left) (is_in_run first bits) old new
      (λ from to is leads. back _ _ _ (none_set left none (from - first)) is)
      (λ from is. forth _ _ is) gains where
        back : (a b c : Bool) → c ≡ false → a ≡ true → (a && not (b && c)) ≡ true
        back a b c e f = grind (arith, nat_tests)

        forth : (a b : Bool) → (a && not b) ≡ true → a ≡ true
        forth a b e = grind (arith, nat_tests)

  -- words after words
  pub GainsLed-words : (first middle end : ℕ) → first ≤ middle → middle ≤ end
      → (old now new : List ℕ) → GainsLed rows (is_in_words first middle old) old now
      → GainsLed rows (is_in_words middle end now) now new → GainsLed rows (is_in_words first end old) old new
  GainsLed-words first middle end low high old now new before then = record {
    kept = λ place held. then.kept place (before.kept place held);
    led = λ from to at leads.
        let parts = in_words first end from old at in
        ⊎_elim
        (λ (below : from / 64 < middle). then.kept to (before.led from to (words_in first middle from old parts.0 below parts.2) leads))
        (λ above. then.led from to (words_in middle end from now above parts.1 (before.kept from parts.2)) leads)
        (cases_lt (from / 64) middle);
    only = λ to held. ⊎_elim
        (λ at_now. ⊎_elim
        (λ at_old. inl at_old)
        (λ led.
        let parts = in_words first middle led.0 old led.1 in
        inr (led.0, words_in first end led.0 old parts.0 (omega (arith, high, parts.1)) parts.2, led.2))
        (before.only to at_now))
        (λ led.
        let parts = in_words middle end led.0 now led.1 in
        ⊎_elim
        (λ at_old. inr (led.0, words_in first end led.0 old (omega (arith, low, parts.0)) parts.1 at_old, led.2))
        (λ other. absurd (false≢true (sym (before.last other.0 led.0 to other.1 other.2) ∙ led.2)))
        (before.only led.0 parts.2))
        (then.only to held);
    last = λ from to next at leads.
        let parts = in_words first end from old at in
        ⊎_elim
        (λ (below : from / 64 < middle). before.last from to next (words_in first middle from old parts.0 below parts.2) leads)
        (λ above. then.last from to next (words_in middle end from now above parts.1 (before.kept from parts.2)) leads)
        (cases_lt (from / 64) middle);
  } where
    in_words : (a b place : ℕ) (words : List ℕ) → is_in_words a b words place ≡ true
        → (a ≤ place / 64) × (place / 64 < b) × (has_place words place ≡ true)
    in_words a b place words at =
        let one : nat_le a (place / 64) ≡ true = (and_parts _ _ at).0 in
        let rest = (and_parts (nat_le a (place / 64)) _ at).1 in
        let two : nat_lt (place / 64) b ≡ true = (and_parts _ _ rest).0 in
        (leb-true _ _ one, ltb-true _ _ two, (and_parts (nat_lt (place / 64) b) _ rest).1)

    words_in : (a b place : ℕ) (words : List ℕ) → a ≤ place / 64 → place / 64 < b → has_place words place ≡ true
        → is_in_words a b words place ≡ true
    words_in a b place words low high at =
        let one : nat_le a (place / 64) ≡ true = grind (arith, nat_tests) in
        let two : nat_lt (place / 64) b ≡ true = grind (arith, nat_tests) in
        and_from _ _ one (and_from _ _ two at)

-- The places of a word of a set, as a row of bits.
pub run_is_word : (words : List ℕ) (number from : ℕ) → slice_index_or words number 0 < 2 ^ 64
    → is_in_run (64 * number) (slice_index_or words number 0) from ≡ is_in_words number (number + 1) words from
run_is_word words number from small = ⊎_elim
    (λ (low : from < 64 * number).
    let a : nat_le (64 * number) from ≡ false = grind (arith, nat_tests) in
    let b : nat_le number (from / 64) ≡ false = grind (arith, nat_tests) in
    neither (nat_le (64 * number) from) (nat_le number (from / 64)) (nat_lt (from / 64) (number + 1)) (has_place words from)
    (is_bit (slice_index_or words number 0) (from - 64 * number)) a b)
    (λ high. ⊎_elim
    (λ (near : from < 64 * (number + 1)).
    let a : nat_le (64 * number) from ≡ true = grind (arith, nat_tests) in
    let b : nat_le number (from / 64) ≡ true = grind (arith, nat_tests) in
    let c : nat_lt (from / 64) (number + 1) ≡ true = grind (arith, nat_tests) in
    let index : 64 * number + (from - 64 * number) ≡ from = omega arith in
    both (nat_le (64 * number) from) (nat_le number (from / 64)) (nat_lt (from / 64) (number + 1)) (has_place words from)
    (is_bit (slice_index_or words number 0) (from - 64 * number)) a b c (word_bits words number (from - 64 * number) (omega arith) ∙ ap (has_place words) index))
    (λ far.
    let c : nat_lt (from / 64) (number + 1) ≡ false = grind (arith, nat_tests) in
    let none : is_bit (slice_index_or words number 0) (from - 64 * number) ≡ false =
    is_bit-above (slice_index_or words number 0) 64 (from - 64 * number) small (omega arith) in
    past (nat_le (64 * number) from) (nat_le number (from / 64)) (nat_lt (from / 64) (number + 1)) (has_place words from)
    (is_bit (slice_index_or words number 0) (from - 64 * number)) none c)
    (cases_lt from (64 * (number + 1))))
    (cases_lt from (64 * number)) where
      neither : (a b c h i : Bool) → a ≡ false → b ≡ false → (a && i) ≡ (b && (c && h))
      neither a b c h i p q = grind (arith, nat_tests)

      both : (a b c h i : Bool) → a ≡ true → b ≡ true → c ≡ true → i ≡ h → (a && i) ≡ (b && (c && h))
      both a b c h i p q r e = grind (arith, nat_tests)

      past : (a b c h i : Bool) → i ≡ false → c ≡ false → (a && i) ≡ (b && (c && h))
      past a b c h i p q = grind (arith, nat_tests)

pub near_word : (words : List ℕ) (number from : ℕ) → 64 * number ≤ from → from < 64 * number + 64
    → is_in_run (64 * number) (slice_index_or words number 0) from ≡ has_place words from
near_word words number from low high =
    let yes : nat_le (64 * number) from ≡ true = grind (arith, nat_tests) in
    let index : 64 * number + (from - 64 * number) ≡ from = omega arith in
    ap (λ t. t && is_bit (slice_index_or words number 0) (from - 64 * number)) yes
    ∙ word_bits words number (from - 64 * number) (omega arith) ∙ ap (has_place words) index

pub word_is_run : (words : List ℕ) (number from : ℕ) → is_in_words number (number + 1) words from ≡ true
    → is_in_run (64 * number) (slice_index_or words number 0) from ≡ true
word_is_run words number from at =
    let rest = (and_parts (nat_le number (from / 64)) _ at).1 in
    let low : number ≤ from / 64 = leb-true _ _ (and_parts _ _ at).0 in
    let high : from / 64 < number + 1 = ltb-true _ _ (and_parts _ _ rest).0 in
    near_word words number from (omega arith) (omega arith) ∙ (and_parts (nat_lt (from / 64) (number + 1)) _ rest).1

-- a row of bits that two rows have in common
pub in_both : (first a b from : ℕ) → is_in_run first (bit_and a b) from ≡ (is_in_run first a from && is_in_run first b from)
in_both first a b from = ap (λ t. nat_le first from && t) (is_bit-and a b (from - first))
    ∙ all (nat_le first from) (is_bit a (from - first)) (is_bit b (from - first)) where
      all : (t p q : Bool) → (t && (p && q)) ≡ ((t && p) && (t && q))
      all t p q = grind (arith, nat_tests)

-- a row of 128 bits in two halves
pub in_halves : (first bits low high from : ℕ) → bits < 2 ^ 128 → low < 2 ^ 64 → high < 2 ^ 64
    → ((j : ℕ) → j < 64 → is_bit low j ≡ is_bit bits j) → ((j : ℕ) → j < 64 → is_bit high j ≡ is_bit (bits / 2 ^ 64) j)
    → is_in_run first bits from ≡ (is_in_run first low from || is_in_run (first + 64) high from)
in_halves first bits low high from small small_low small_high at_low at_high = ⊎_elim
    (λ (before : from < first).
    let a : nat_le first from ≡ false = grind (arith, nat_tests) in
    let b : nat_le (first + 64) from ≡ false = grind (arith, nat_tests) in
    neither _ _ _ _ _ a b)
    (λ after. ⊎_elim
    (λ (near : from < first + 64).
    let b : nat_le (first + 64) from ≡ false = grind (arith, nat_tests) in
    lower _ _ _ _ _ b (at_low (from - first) (omega arith)))
    (λ far.
    let a : nat_le first from ≡ true = grind (arith, nat_tests) in
    let b : nat_le (first + 64) from ≡ true = grind (arith, nat_tests) in
    let none : is_bit low (from - first) ≡ false = is_bit-above low 64 (from - first) small_low (omega arith) in
    let index : 64 + (from - (first + 64)) ≡ from - first = omega arith in
    upper _ _ _ _ _ a b none (⊎_elim
    (λ (inside : from - (first + 64) < 64).
    at_high (from - (first + 64)) inside ∙ is_bit-shr bits 64 (from - (first + 64)) ∙ ap (is_bit bits) index)
    (λ outside.
    is_bit-above high 64 (from - (first + 64)) small_high (omega arith)
    ∙ sym (is_bit-above bits 128 (from - first) small (omega arith)))
    (cases_lt (from - (first + 64)) 64)))
    (cases_lt from (first + 64)))
    (cases_lt from first) where
      neither : (a b p q r : Bool) → a ≡ false → b ≡ false → (a && p) ≡ ((a && q) || (b && r))
      neither a b p q r e f = grind (arith, nat_tests)

      lower : (a b p q r : Bool) → b ≡ false → q ≡ p → (a && p) ≡ ((a && q) || (b && r))
      lower a b p q r e f = grind (arith, nat_tests)

      upper : (a b p q r : Bool) → a ≡ true → b ≡ true → q ≡ false → r ≡ p → (a && p) ≡ ((a && q) || (b && r))
      upper a b p q r e f g h = grind (arith, nat_tests)

-- what the words of a set lead to, joined with the set itself
module _ (rows : List (List ℕ)) (short : length rows ≤ 1040) where
  -- a test that is true of the same places with a row, and of no other
  pub GainsLed-same : (one other : ℕ → Bool) (old new : List ℕ)
      → ((from to : ℕ) → other from ≡ true → leads rows from to ≡ true → one from ≡ true)
      → ((from to : ℕ) → one from ≡ true → leads rows from to ≡ true → other from ≡ true)
      → GainsLed rows one old new → GainsLed rows other old new
  GainsLed-same one other old new back forth gains = record {
    kept = gains.kept;
    led = λ from to at leads. gains.led from to (back from to at leads) leads;
    only = λ to held. ⊎_elim (λ at_old. inl at_old) (λ by. inr (by.0, forth by.0 to by.1 by.2, by.2)) (gains.only to held);
    last = λ from to next at leads. gains.last from to next (back from to at leads) leads;
  }

  -- a place with a row is low
  pub leads-low : (from to : ℕ) → leads rows from to ≡ true → from < 1040
  leads-low from to at = ⊎_elim
      (λ (low : from < 1040). low)
      (λ high. absurd (false≢true (sym (leads-past rows from to (omega (arith, short, high))) ∙ at)))
      (cases_lt from 1040)

  -- what a row leads to leads nowhere
  pub leads-once : ((from to : ℕ) → leads rows from to ≡ true → 1040 ≤ to) → (from to next : ℕ) → leads rows from to ≡ true
      → leads rows to next ≡ false
  leads-once onward from to next at = let high = onward from to at in leads-past rows to next (omega (arith, short, high))

  -- the first words have all places with a row
  pub GainsLed-all : (old new : List ℕ) → GainsLed rows (is_in_words 0 17 old) old new → GainsLed rows (has_place old) old new
  GainsLed-all old new gains =
      GainsLed-same (is_in_words 0 17 old) (has_place old) old new
      (λ from to at leads.
      let low = leads-low from to leads in
      let yes : nat_lt (from / 64) 17 ≡ true = grind (arith, nat_tests, low) in
      let any : nat_le 0 (from / 64) ≡ true = grind (arith, nat_tests) in
      and_from _ _ any (and_from _ _ yes at))
      (λ from to at leads. (and_parts (nat_lt (from / 64) 17) _ (and_parts (nat_le 0 (from / 64)) _ at).1).1)
      gains

  -- where no place of a word is marked, none of it leads on
  pub GainsLed-unmarked : (marked words : List ℕ) (number : ℕ) → ((from to : ℕ) → leads rows from to ≡ true → has_place marked from ≡ true)
      → slice_index_or words number 0 < 2 ^ 64
      → bit_and (slice_index_or words number 0) (slice_index_or marked number 0) ≡ 0
      → GainsLed rows (is_in_words number (number + 1) words) words words
  GainsLed-unmarked marked words number marks small none =
      GainsLed-none rows (is_in_words number (number + 1) words) words
      (λ from to at leads.
      let rest = (and_parts _ _ at).1 in
      let there : is_in_words number (number + 1) marked from ≡ true =
      and_from _ _ (and_parts _ _ at).0 (and_from _ _ (and_parts _ _ rest).0 (marks from to leads)) in
      false≢true
      (sym (ap (λ b. nat_le (64 * number) from && b)
      (none_set (bit_and (slice_index_or words number 0) (slice_index_or marked number 0)) none (from - 64 * number)) ∙ and-false _)
      ∙ in_both (64 * number) (slice_index_or words number 0) (slice_index_or marked number 0) from
      ∙ and_from _ _ (word_is_run words number from at) (word_is_run marked number from there)))

  -- the marked places of a word are all of it that leads on
  pub GainsLed-marked : (marked words new : List ℕ) (number : ℕ) → ((from to : ℕ) → leads rows from to ≡ true → has_place marked from ≡ true)
      → slice_index_or words number 0 < 2 ^ 64
      → GainsLed rows (is_in_run (64 * number) (bit_and (slice_index_or words number 0) (slice_index_or marked number 0))) words new
      → GainsLed rows (is_in_words number (number + 1) words) words new
  GainsLed-marked marked words new number marks small gains =
      GainsLed-same
      (is_in_run (64 * number) (bit_and (slice_index_or words number 0) (slice_index_or marked number 0)))
      (is_in_words number (number + 1) words) words new
      (λ from to at leads.
      let rest = (and_parts _ _ at).1 in
      let there : is_in_words number (number + 1) marked from ≡ true =
      and_from _ _ (and_parts _ _ at).0 (and_from _ _ (and_parts _ _ rest).0 (marks from to leads)) in
      in_both (64 * number) (slice_index_or words number 0) (slice_index_or marked number 0) from
      ∙ and_from _ _ (word_is_run words number from at) (word_is_run marked number from there))
      (λ from to at leads.
      sym (run_is_word words number from small)
      ∙ (and_parts _ _ (sym (in_both (64 * number) (slice_index_or words number 0) (slice_index_or marked number 0) from) ∙ at)).0)
      gains

-- rows of zeros lead nowhere
abbrev pub are_zeros : ℕ → List (List ℕ)
are_zeros count = replicate count (replicate {A = ℕ} 15 0)

pub leads-zeros : (count from to : ℕ) (rows : List (List ℕ)) → rows ≡ are_zeros count → leads rows from to ≡ false
leads-zeros count from to rows are =
    ap (λ (r : List (List ℕ)). leads r from to) are
    ∙ ⊎_elim
    (λ (inside : from < count).
    let row = get_or-replicate count from (replicate {A = ℕ} 15 0) [] inside in
    ap (λ (r : List ℕ). is_in_entries r to) row ∙ ap (λ b. nat_le 1024 to && b) (has_place-zeros 15 (to - 1024)) ∙ and-false _)
    (λ past. leads-past (are_zeros count) from to (omega (arith, length-replicate count (replicate {A = ℕ} 15 0))))
    (cases_lt from count)

pub length-zeros : (count : ℕ) (rows : List (List ℕ)) → rows ≡ are_zeros count → length rows ≡ count
length-zeros count rows are = ap (λ (r : List (List ℕ)). length r) are ∙ length-replicate count (replicate {A = ℕ} 15 0)
