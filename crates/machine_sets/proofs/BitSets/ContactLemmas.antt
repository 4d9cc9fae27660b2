-- Closed contacts passed on by rows of bits.
use Rattle.std.proofs.Common.{zero, suc, ⊎_elim, ◌⊎◌, inl, inr, ◌≡◌, ℕ, ◌+◌, ◌-◌, ◌*◌, ◌%◌, ◌^◌, ◌<◌, ◌≤◌, ◌∙◌, sym, ap, refl, arith, Bool, true, false, not, ◌&&◌, ◌||◌, List, length, slice_index_or, drop, [], ◌∷◌, add-one}
use Rattle.std.proofs.Math.Seq.{drop-cons}
use Rattle.std.proofs.lemmas.Grind.{common_steps}
use Rattle.std.specs.Prelude.{nat_le, nat_lt, ◌==◌}
use Rattle.std.specs.Int.{bit_not, w128}
use Rattle.std.specs.Int.Bits.{bit_and}
use Rattle.std.proofs.lemmas.Bool.Decides.{nat_tests}
use Rattle.std.proofs.lemmas.Bool.{and_parts, cases_lt, false≢true, or_cases, or_left, or_right}
use Rattle.std.proofs.lemmas.Nat.{one_shl}
use Rattle.std.proofs.Math.Bool.{and-false}
use Rattle.machine_sets.specs.BitSets.Bits.{is_bit, has_place, is_in_run}
use Rattle.machine_sets.specs.BitSets.Contacts.{AreCommons, AreOnlyCommons, is_any_contact, is_contact, passes_run, IsRunInRange}
use Rattle.machine_sets.specs.declared.bit_sets.contacts.Run.{Run}
use Rattle.machine_sets.proofs.BitSets.BitLemmas.{is_bit-and, is_bit-not, is_bit-ones, none_set}

-- the first so many bits, as code makes them
pub ones_short : (count k : ℕ) → count < 128 → is_bit (1 * 2 ^ count % 2 ^ 128 - 1) k ≡ nat_lt k count
ones_short count k small = ap (λ n. is_bit (n - 1) k) (one_shl count 128 small) ∙ is_bit-ones count k

pub ones_full : (count k : ℕ) → count ≤ 128 → 128 ≤ count → is_bit (2 ^ 128 - 1) k ≡ nat_lt k count
ones_full count k le ge = let same : 128 ≡ count = omega arith in is_bit-ones 128 k ∙ ap (nat_lt k) same

-- what a row of bits says of its places, cut off at 128
abbrev pub IsRow : ℕ → List ℕ → ℕ → Type 0
IsRow bits words first = (k : ℕ) → is_bit bits k ≡ (nat_lt k 128 && has_place words (first + k))

-- the bits that a run passes on are those of its places
pub run_passes :
    (run : Run) (closed words : List ℕ) (commons ones shut there place : ℕ) → IsRunInRange run → IsRow commons words run.common
    → ((k : ℕ) → is_bit ones k ≡ nat_lt k run.count) → IsRow shut closed run.exits → IsRow there words run.exits
    → there < 2 ^ 128
    → is_in_run run.exits (bit_and (bit_and (bit_and commons ones) shut) (bit_not w128 there)) place
    ≡ passes_run closed words run place
run_passes run closed words commons ones shut there place range at_commons at_ones at_shut at_there small =
    ⊎_elim
    (λ (before : place < run.exits).
    let no_place : nat_le run.exits place ≡ false = grind (arith, nat_tests) in
    by_none _ _ _ no_place)
    (λ after. ap (λ b. nat_le run.exits place && b) (by_bit (place - run.exits) (omega arith)))
    (cases_lt place run.exits) where
      by_none : (a b c : Bool) → a ≡ false → (a && b) ≡ (a && c)
      by_none a b c e = grind (arith, nat_tests)

      by_bit : (k : ℕ) → run.exits + k ≡ place
          → is_bit (bit_and (bit_and (bit_and commons ones) shut) (bit_not w128 there)) k
          ≡ (nat_lt k run.count && (has_place closed place && (has_place words (run.common + k) && not (has_place words place))))
      by_bit k back =
          is_bit-and (bit_and (bit_and commons ones) shut) (bit_not w128 there) k
          ∙ ap (λ b. b && is_bit (bit_not w128 there) k)
          (is_bit-and (bit_and commons ones) shut k ∙ ap (λ b. b && is_bit shut k) (is_bit-and commons ones k))
          ∙ ⊎_elim near far (cases_lt k 128) where
            near : k < 128 → (((is_bit commons k && is_bit ones k) && is_bit shut k) && is_bit (bit_not w128 there) k)
                ≡ (nat_lt k run.count && (has_place closed place && (has_place words (run.common + k) && not (has_place words place))))
            near low =
                let yes : nat_lt k 128 ≡ true = grind (arith, nat_tests) in
                let a : is_bit commons k ≡ has_place words (run.common + k) = at_commons k ∙ ap (λ b. b && has_place words (run.common + k)) yes in
                let s : is_bit shut k ≡ has_place closed place =
                at_shut k ∙ ap (λ b. b && has_place closed (run.exits + k)) yes ∙ ap (has_place closed) back in
                let t : is_bit there k ≡ has_place words place =
                at_there k ∙ ap (λ b. b && has_place words (run.exits + k)) yes ∙ ap (has_place words) back in
                all _ _ _ _ _ _ _ _ a (at_ones k) s (is_bit-not w128 there k small low ∙ ap not t) where
                  all : (a o s t hc lt hs ht : Bool) → a ≡ hc → o ≡ lt → s ≡ hs → t ≡ not ht
                      → (((a && o) && s) && t) ≡ (lt && (hs && (hc && not ht)))
                  all a o s t hc lt hs ht p q r u = grind (arith, nat_tests)

            far : 128 ≤ k → (((is_bit commons k && is_bit ones k) && is_bit shut k) && is_bit (bit_not w128 there) k)
                ≡ (nat_lt k run.count && (has_place closed place && (has_place words (run.common + k) && not (has_place words place))))
            far high =
                let no_bit : nat_lt k 128 ≡ false = grind (arith, nat_tests) in
                let count = range.count in
                let past : nat_lt k run.count ≡ false = grind (arith, nat_tests) in
                let a : is_bit commons k ≡ false = at_commons k ∙ ap (λ b. b && has_place words (run.common + k)) no_bit in
                none _ _ _ _ _ _ a past where
                  none : (a o s t lt rest : Bool) → a ≡ false → lt ≡ false → (((a && o) && s) && t) ≡ (lt && rest)
                  none a o s t lt rest e f = grind (arith, nat_tests)

-- a row without a bit has no place
pub none_in_run : (first bits place : ℕ) → bits ≡ 0 → is_in_run first bits place ≡ false
none_in_run first bits place none =
    ap (λ b. nat_le first place && b) (none_set bits none (place - first)) ∙ and-false (nat_le first place)

-- where no common place is impulsed a run passes nothing on
pub run_passes_none :
    (run : Run) (closed words : List ℕ) (commons ones place : ℕ) → IsRunInRange run → IsRow commons words run.common
    → ((k : ℕ) → is_bit ones k ≡ nat_lt k run.count) → bit_and commons ones ≡ 0 → passes_run closed words run place ≡ false
run_passes_none run closed words commons ones place range at_commons at_ones none =
    by_test (nat_lt (place - run.exits) run.count) refl where
      by_test : (b : Bool) → nat_lt (place - run.exits) run.count ≡ b → passes_run closed words run place ≡ false
      by_test false e = ap (λ b. nat_le run.exits place && (b && (has_place closed place && (has_place words (run.common + (place - run.exits)) && not (has_place words place))))) e ∙ and-false (nat_le run.exits place)
      by_test true e =
          let count = range.count in
          let yes : nat_lt (place - run.exits) 128 ≡ true = grind (arith, nat_tests, e) in
          let a : is_bit commons (place - run.exits) ≡ has_place words (run.common + (place - run.exits)) =
          at_commons (place - run.exits) ∙ ap (λ b. b && has_place words (run.common + (place - run.exits))) yes in
          let o : is_bit ones (place - run.exits) ≡ true = at_ones (place - run.exits) ∙ e in
          let both : (is_bit commons (place - run.exits) && is_bit ones (place - run.exits)) ≡ false =
          sym (is_bit-and commons ones (place - run.exits)) ∙ none_set (bit_and commons ones) none (place - run.exits) in
          all (is_bit commons (place - run.exits)) (is_bit ones (place - run.exits))
          (has_place words (run.common + (place - run.exits))) (nat_le run.exits place)
          (nat_lt (place - run.exits) run.count) (has_place closed place) (not (has_place words place)) a o both where
            all : (a o hc le lt hs ht : Bool) → a ≡ hc → o ≡ true → (a && o) ≡ false → (le && (lt && (hs && (hc && ht)))) ≡ false
            all a o hc le lt hs ht p q r = grind (arith, nat_tests)

-- a contact leads from one of its run's common places
contact_parts : (exits common count from to : ℕ)
    → (nat_le exits to && (nat_lt (to - exits) count && (from == common + (to - exits)))) ≡ true
    → (nat_le common from ≡ true) × (nat_lt (from - common) count ≡ true)
contact_parts exits common count from to is = (grind (arith, nat_tests, is), grind (arith, nat_tests, is))

-- the contact of a run from one of its common places
is_contact-from : (exits common count from : ℕ) → nat_le common from ≡ true → nat_lt (from - common) count ≡ true
    → (nat_le exits (exits + (from - common))
    && (nat_lt (exits + (from - common) - exits) count && (from == common + (exits + (from - common) - exits)))) ≡ true
is_contact-from exits common count from low high = grind (arith, nat_tests, low, high)

-- a contact of one of the runs is one of them all
any_contact : (runs : List Run) (i : ℕ) (d : Run) (from to : ℕ) → i < length runs → is_contact (slice_index_or runs i d) from to ≡ true
    → is_any_contact runs from to ≡ true
any_contact [] i d from to inside is = absurd (omega (arith, inside))
any_contact (run ∷ runs) zero d from to inside is = or_left _ _ is
any_contact (run ∷ runs) (suc i) d from to inside is =
    or_right (is_contact run from to) _ (any_contact runs i d from to (omega (arith, inside)) is)

-- each place of the commons of one run more is one that a contact leads from
pub only_commons_more :
    (runs : List Run) (i : ℕ) (d : Run) (old now : List ℕ) (ones : ℕ) → i < length runs
    → ((k : ℕ) → is_bit ones k ≡ nat_lt k (slice_index_or runs i d).count)
    → ((place : ℕ) → has_place now place
    ≡ (has_place old place || (nat_lt place 1984 && is_in_run (slice_index_or runs i d).common ones place)))
    → AreOnlyCommons runs old → AreOnlyCommons runs now
only_commons_more runs i d old now ones inside bits gained before from at =
    ⊎_elim (before from) here (or_cases (has_place old from) _ (sym (gained from) ∙ at)) where
      run : Run
      run = slice_index_or runs i d

      here : (nat_lt from 1984 && is_in_run run.common ones from) ≡ true → (to : ℕ) × (is_any_contact runs from to ≡ true)
      here is =
          let row = and_parts (nat_le run.common from) _ (and_parts (nat_lt from 1984) _ is).1 in (
            run.exits + (from - run.common),
            any_contact runs i d from (run.exits + (from - run.common)) inside
                (is_contact-from run.exits run.common run.count from row.0 (sym (bits (from - run.common)) ∙ row.1)),
          )

-- the places that the contacts of one run more lead from
pub commons_more :
    (runs : List Run) (i : ℕ) (d : Run) (old now : List ℕ) (ones : ℕ) → i < length runs
    → ((k : ℕ) → is_bit ones k ≡ nat_lt k (slice_index_or runs i d).count)
    → ((place : ℕ) → has_place now place
    ≡ (has_place old place || (nat_lt place 1984 && is_in_run (slice_index_or runs i d).common ones place)))
    → ((from to : ℕ) → from < 1984 → is_any_contact runs from to ≡ true
    → (has_place old from ≡ true) ⊎ (is_any_contact (drop i runs) from to ≡ true))
    → (from to : ℕ) → from < 1984 → is_any_contact runs from to ≡ true
    → (has_place now from ≡ true) ⊎ (is_any_contact (drop (i + 1) runs) from to ≡ true)
commons_more runs i d old now ones inside bits gained before from to low contact =
    ⊎_elim (λ there. inl (gained from ∙ or_left _ _ there)) to_come (before from to low contact) where
      run : Run
      run = slice_index_or runs i d

      parts : drop i runs ≡ run ∷ drop (i + 1) runs
      parts = rw (add-one, drop-cons runs i d)

      here : is_contact run from to ≡ true → has_place now from ≡ true
      here is =
          let found = contact_parts run.exits run.common run.count from to is in
          let row : is_in_run run.common ones from ≡ true = row_bit found.0 (bits (from - run.common) ∙ found.1) in
          let within : nat_lt from 1984 ≡ true = grind (arith, nat_tests, low) in
          gained from ∙ or_right (has_place old from) _ (rw (within, row) refl) where
            row_bit : nat_le run.common from ≡ true → is_bit ones (from - run.common) ≡ true → is_in_run run.common ones from ≡ true
            row_bit e f = rw (e, f) refl

      to_come : is_any_contact (drop i runs) from to ≡ true
          → (has_place now from ≡ true) ⊎ (is_any_contact (drop (i + 1) runs) from to ≡ true)
      to_come is =
          ⊎_elim (λ at. inl (here at)) inr
          (or_cases (is_contact run from to) (is_any_contact (drop (i + 1) runs) from to)
          (sym (ap (λ (rest : List Run). is_any_contact rest from to) parts) ∙ is))

pub commons_last : (runs : List Run) (i : ℕ) (commons : List ℕ) → length runs ≤ i
    → ((from to : ℕ) → from < 1984 → is_any_contact runs from to ≡ true
    → (has_place commons from ≡ true) ⊎ (is_any_contact (drop i runs) from to ≡ true))
    → AreCommons runs commons
commons_last runs i commons end before from to low contact =
    ⊎_elim (λ at. at) (λ rest. absurd (false≢true (sym (ap (λ (rest : List Run). is_any_contact rest from to) none) ∙ rest)))
    (before from to low contact) where
      none : drop i runs ≡ []
      none = grind (arith, common_steps)
