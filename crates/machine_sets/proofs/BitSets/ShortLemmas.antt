-- Rows of few words.
use Rattle.std.proofs.Common.{⊎_elim, ◌⊎◌, inl, inr, ◌≡◌, ◌≢◌, ℕ, ◌+◌, ◌-◌, ◌*◌, ◌/◌, ◌%◌, ◌<◌, ◌≤◌, ◌∙◌, sym, ap, subst, refl, arith, Bool, true, false, ◌&&◌, ◌||◌, List, [], ◌∷◌, ◌++◌, length, slice_index_or, slice_set}
use Rattle.std.specs.Prelude.{nat_le, ◌==◌}
use Rattle.std.specs.Int.Bits.{bit_or}
use Rattle.std.proofs.lemmas.Bool.Decides.{nat_tests}
use Rattle.std.proofs.lemmas.Bool.{cases_eq, cases_lt}
use Rattle.std.proofs.lemmas.List.{get_or_past, length-set, length-append}
use Rattle.std.proofs.Math.ListN.{get_or-append}
use Rattle.std.proofs.Math.Seq.{get_or-append_seam}
use Rattle.machine_sets.specs.BitSets.Bits.{is_bit, has_place}
use Rattle.machine_sets.specs.BitSets.Rows.{GainsLed, is_in_entries, leads}
use Rattle.machine_sets.specs.BitSets.Shorts.{AreShorts, IsShort, is_in_short}
use Rattle.machine_sets.specs.declared.bit_sets.shorts.Short.{Short}
use Rattle.machine_sets.proofs.BitSets.BitLemmas.{none_set}
use Rattle.machine_sets.proofs.BitSets.LedLemmas.{GainsLed-row}
use Rattle.machine_sets.proofs.BitSets.PlaceLemmas.{has_place-word, place_gains}

-- two words of a row have all of its places where no other word has any
pub short_whole : (row : List ℕ) (first last : ℕ) → length row ≡ 15 → first < 15 → last < 15
    → ((number : ℕ) → number < 15 → number ≢ first → number ≢ last → slice_index_or row number 0 ≡ 0) → (place : ℕ)
    → is_in_entries row place
    ≡ (((place / 64 == 16 + first) && is_bit (slice_index_or row first 0) (place % 64))
    || ((place / 64 == 16 + last) && is_bit (slice_index_or row last 0) (place % 64)))
short_whole row first last long low_first low_last none place = ⊎_elim
    (λ (below : place < 1024).
    let a : nat_le 1024 place ≡ false = grind (arith, nat_tests) in
    let b : (place / 64 == 16 + first) ≡ false = grind (arith, nat_tests) in
    let c : (place / 64 == 16 + last) ≡ false = grind (arith, nat_tests) in
    neither _ _ _ _ _ _ a b c)
    (λ above.
    let a : nat_le 1024 place ≡ true = grind (arith, nat_tests) in
    let number : ℕ = (place - 1024) / 64 in
    let bit : (place - 1024) % 64 ≡ place % 64 = omega arith in
    let word : has_place row (place - 1024) ≡ is_bit (slice_index_or row ((place - 1024) / 64) 0) (place % 64) =
    has_place-word row (place - 1024) ∙ ap (is_bit (slice_index_or row ((place - 1024) / 64) 0)) bit in
    let at_first : (place / 64 == 16 + first) ≡ ((place - 1024) / 64 == first) = grind (arith, nat_tests) in
    let at_last : (place / 64 == 16 + last) ≡ ((place - 1024) / 64 == last) = grind (arith, nat_tests) in
    ap (λ t. t && has_place row (place - 1024)) a ∙ word ∙ by ((place - 1024) / 64) (place % 64)
    ∙ ap (λ t. (t && is_bit (slice_index_or row first 0) (place % 64)) || (((place - 1024) / 64 == last) && is_bit (slice_index_or row last 0) (place % 64))) (sym at_first)
    ∙ ap (λ t. ((place / 64 == 16 + first) && is_bit (slice_index_or row first 0) (place % 64)) || (t && is_bit (slice_index_or row last 0) (place % 64))) (sym at_last))
    (cases_lt place 1024) where
      neither : (a b c p q r : Bool) → a ≡ false → b ≡ false → c ≡ false → (a && p) ≡ ((b && q) || (c && r))
      neither a b c p q r e f g = grind (arith, nat_tests)

      one : (b c p q r : Bool) → b ≡ true → (c ≡ true → r ≡ p) → p ≡ q → p ≡ ((b && q) || (c && r))
      one b true p q r e f g = let same = f refl in grind (arith, nat_tests)
      one b false p q r e f g = grind (arith, nat_tests)

      other : (b c p q r : Bool) → b ≡ false → c ≡ true → p ≡ r → p ≡ ((b && q) || (c && r))
      other b c p q r e f g = grind (arith, nat_tests)

      no_word : (b c p q r : Bool) → b ≡ false → c ≡ false → p ≡ false → p ≡ ((b && q) || (c && r))
      no_word b c p q r e f g = grind (arith, nat_tests)

      by : (number bit : ℕ) → is_bit (slice_index_or row number 0) bit
          ≡ (((number == first) && is_bit (slice_index_or row first 0) bit) || ((number == last) && is_bit (slice_index_or row last 0) bit))
      by number bit = ⊎_elim
          (λ (same : number ≡ first).
          let yes : (number == first) ≡ true = grind (arith, nat_tests) in
          one _ (number == last) _ _ _ yes
          (λ is. let equal : number ≡ last = grind (arith, nat_tests, is) in ap (λ n. is_bit (slice_index_or row n 0) bit) (sym equal))
          (ap (λ n. is_bit (slice_index_or row n 0) bit) same))
          (λ (not_first : number ≢ first).
          let no_first : (number == first) ≡ false = grind (arith, nat_tests) in
          ⊎_elim
          (λ (same : number ≡ last).
          let yes : (number == last) ≡ true = grind (arith, nat_tests) in
          other _ _ _ _ _ no_first yes (ap (λ n. is_bit (slice_index_or row n 0) bit) same))
          (λ (not_last : number ≢ last).
          let no_last : (number == last) ≡ false = grind (arith, nat_tests) in
          no_word _ _ _ _ _ no_first no_last (none_set (slice_index_or row number 0) (empty number not_first not_last (cases_lt number 15)) bit))
          (cases_eq number last))
          (cases_eq number first) where
            empty : (number : ℕ) → number ≢ first → number ≢ last → (number < 15) ⊎ (15 ≤ number) → slice_index_or row number 0 ≡ 0
            empty number not_first not_last (inl low) = none number low not_first not_last
            empty number not_first not_last (inr high) = get_or_past row number 0 (omega (arith, long, high))

-- a set joined with the two words gains the row
pub GainsLed-short : (rows : List (List ℕ)) (from : ℕ) (short : Short) (old : List ℕ) → length old ≡ 31
    → IsShort (slice_index_or rows from []) short → short.is_whole ≡ true
    → ((to next : ℕ) → leads rows from to ≡ true → leads rows to next ≡ false)
    → (now new : List ℕ) → now ≡ slice_set old short.first (bit_or (slice_index_or old short.first 0) short.first_bits)
    → new ≡ slice_set now short.last (bit_or (slice_index_or now short.last 0) short.last_bits)
    → GainsLed rows (λ place. place == from) old new
GainsLed-short rows from short old long is_short whole last now new at_first at_last =
    GainsLed-row rows from (slice_index_or rows from []) old new refl last
    (λ place. twice place ∙ ap (λ b. has_place old place || b) (sym (is_short.whole whole place))) where
      bit : (word number j : ℕ) → j < 64 → is_bit word j ≡ is_bit word ((64 * number + j) % 64)
      bit word number j low = let same : j ≡ (64 * number + j) % 64 = omega arith in ap (is_bit word) same

      grown : length now ≡ 31
      grown = ap (λ (l : List ℕ). length l) at_first ∙ length-set old short.first _ ∙ long

      once : (place : ℕ) → has_place now place ≡ (has_place old place || ((place / 64 == short.first) && is_bit short.first_bits (place % 64)))
      once place =
          ap (λ (l : List ℕ). has_place l place) at_first
          ∙ place_gains (λ k. is_bit short.first_bits (k % 64)) old short.first short.first_bits (omega (arith, long, is_short.first))
          (bit short.first_bits short.first) place

      twice : (place : ℕ) → has_place new place ≡ (has_place old place || is_in_short short place)
      twice place =
          ap (λ (l : List ℕ). has_place l place) at_last
          ∙ place_gains (λ k. is_bit short.last_bits (k % 64)) now short.last short.last_bits (omega (arith, grown, is_short.last))
          (bit short.last_bits short.last) place
          ∙ ap (λ b. b || ((place / 64 == short.last) && is_bit short.last_bits (place % 64))) (once place)
          ∙ both (has_place old place) ((place / 64 == short.first) && is_bit short.first_bits (place % 64))
          ((place / 64 == short.last) && is_bit short.last_bits (place % 64)) where
            both : (a b c : Bool) → ((a || b) || c) ≡ (a || (b || c))
            both a b c = grind (arith, nat_tests)

-- one row more
pub AreShorts-more : (rows : List (List ℕ)) (old new : List Short) (short : Short) → AreShorts old rows
    → IsShort (slice_index_or rows (length old) []) short → new ≡ old ++ short ∷ [] → AreShorts new rows
AreShorts-more rows old new short before is grown from default inside = ⊎_elim
    (λ (low : from < length old).
    subst (λ (s : Short). IsShort (slice_index_or rows from []) s) (sym (ap (λ (l : List Short). slice_index_or l from default) grown ∙ get_or-append old (short ∷ []) default from low))
    (before from default low))
    (λ high.
    let same : length old ≡ from = omega (arith, inside, high, ap (λ (l : List Short). length l) grown ∙ length-append old (short ∷ [])) in
    subst (λ (n : ℕ). IsShort (slice_index_or rows n []) (slice_index_or new n default)) same
    (subst (λ (s : Short). IsShort (slice_index_or rows (length old) []) s)
    (sym (ap (λ (l : List Short). slice_index_or l (length old) default) grown ∙ get_or-append_seam old short [] default)) is))
    (cases_lt from (length old))
