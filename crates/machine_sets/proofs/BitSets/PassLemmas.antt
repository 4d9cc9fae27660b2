-- Contacts passed run by run: what each adds, and what all of them add.
use Rattle.std.proofs.Common.{⊎_elim, ◌⊎◌, inl, inr, ◌≡◌, ◌≢◌, ℕ, zero, suc, ◌+◌, ◌-◌, ◌^◌, ◌<◌, ◌≤◌, ◌∙◌, sym, ap, refl, arith, Bool, true, false, not, ◌&&◌, ◌||◌, List, [], ◌∷◌, length, slice_index_or}
use Rattle.std.specs.Prelude.{nat_le, nat_lt, ◌==◌}
use Rattle.std.proofs.lemmas.Bool.Decides.{nat_tests}
use Rattle.std.proofs.lemmas.Bool.{cases_lt, false≢true, and_from, and_parts, or_cases, or_left, or_right}
use Rattle.machine_sets.specs.BitSets.Bits.{has_place, is_bit, is_in_run}
use Rattle.machine_sets.specs.BitSets.Contacts.{is_any_contact, is_contact, passes_run}
use Rattle.machine_sets.specs.BitSets.Passing.{GainsPassed, IsPassedOn}
use Rattle.machine_sets.specs.BitSets.Reached.{IsReached}
use Rattle.machine_sets.specs.BitSets.Reached.IsReached.{by_row, by_contact}
use Rattle.machine_sets.specs.BitSets.Rows.{GainsLed}
use Rattle.machine_sets.specs.declared.bit_sets.contacts.Run.{Run}
use Rattle.machine_sets.proofs.BitSets.BitLemmas.{first_set}
use Rattle.machine_sets.proofs.BitSets.PlaceLemmas.{has_place-past}

-- what a passed contact says
record IsPassed (closed words : List ℕ) (run : Run) (to : ℕ) : Type 0 where
  from : ℕ
  at : has_place words from ≡ true
  contact : is_contact run from to ≡ true
  shut : has_place closed to ≡ true
  out : has_place words to ≡ false

-- the parts of a conjunction of five
all_five : (a b c d e : Bool) → (a && (b && (c && (d && not e)))) ≡ true
    → (a ≡ true) × (b ≡ true) × (c ≡ true) × (d ≡ true) × (e ≡ false)
all_five true true true true false e = (refl, refl, refl, refl, refl)
all_five other another third fourth fifth e = cc

-- what is passed on is passed by a contact
passed_by : (closed words : List ℕ) (run : Run) (to : ℕ) → passes_run closed words run to ≡ true → IsPassed closed words run to
passed_by closed words run to at =
    let parts = all_five (nat_le run.exits to) (nat_lt (to - run.exits) run.count) (has_place closed to)
    (has_place words (run.common + (to - run.exits))) (has_place words to) at in
    record {
      from = run.common + (to - run.exits);
      at = parts.3;
      contact = is _ _ (run.common + (to - run.exits)) parts.0 parts.1;
      shut = parts.2;
      out = parts.4;
    } where
      is : (a b : Bool) (n : ℕ) → a ≡ true → b ≡ true → (a && (b && (n == n))) ≡ true
      is a b n e f = grind (arith, nat_tests)

-- a closed contact from a place of the set passes on where its exit is not there
passes_on : (closed words : List ℕ) (run : Run) (from to : ℕ) → has_place words from ≡ true
    → is_contact run from to ≡ true → has_place closed to ≡ true → has_place words to ≡ false
    → passes_run closed words run to ≡ true
passes_on closed words run from to at contact shut out =
    let same : from ≡ run.common + (to - run.exits) = number (nat_le run.exits to) (nat_lt (to - run.exits) run.count) from _ contact in
    let at_common : has_place words (run.common + (to - run.exits)) ≡ true = ap (has_place words) (sym same) ∙ at in
    all _ _ _ _ _ _ contact shut at_common out where
      number : (a b : Bool) (n m : ℕ) → (a && (b && (n == m))) ≡ true → n ≡ m
      number a b n m e = grind (arith, nat_tests)

      all : (a b c d e f : Bool) → (a && (b && c)) ≡ true → d ≡ true → e ≡ true → f ≡ false
          → (a && (b && (d && (e && not f)))) ≡ true
      all a b c d e f p q r t = grind (arith, nat_tests)

-- whether a run passes on to a place, as code tells it
abbrev pub is_passed : List ℕ → List ℕ → Run → ℕ → Bool
is_passed closed words run place = nat_lt place 1984 && passes_run closed words run place

-- a run that passes nothing on adds nothing
pub GainsPassed-none : (rows : List (List ℕ)) (closed words : List ℕ) (run : Run)
    → ((place : ℕ) → passes_run closed words run place ≡ false) → GainsPassed rows (is_passed closed words run) words words
GainsPassed-none rows closed words run none = record {
  kept = λ place at. at;
  passed = λ place at. absurd (false≢true (sym (none place) ∙ (and_parts (nat_lt place 1984) _ at).1));
  led = λ from to at leads_on. absurd (false≢true (sym (none from) ∙ (and_parts (nat_lt from 1984) _ at).1));
  only = λ to at. inl at;
  last = λ from to next at leads_on. absurd (false≢true (sym (none from) ∙ (and_parts (nat_lt from 1984) _ at).1));
}

pub passed-none : (closed words : List ℕ) (run : Run) → ((place : ℕ) → passes_run closed words run place ≡ false)
    → (place : ℕ) → is_passed closed words run place ≡ false
passed-none closed words run none place = ap (λ b. nat_lt place 1984 && b) (none place) ∙ no_more (nat_lt place 1984) where
  no_more : (a : Bool) → (a && false) ≡ false
  no_more a = grind (arith, nat_tests)

-- a set of 31 words has no place past them
place-low : (words : List ℕ) → length words ≡ 31 → (place : ℕ) → has_place words place ≡ true → nat_lt place 1984 ≡ true
place-low words long place at = ⊎_elim
    (λ (low : place < 1984). grind (arith, nat_tests))
    (λ high. absurd (false≢true (sym (has_place-past words place (omega (arith, long, high))) ∙ at)))
    (cases_lt place 1984)

-- the bits of a run that is passed, and what their rows lead to
pub GainsPassed-run : (rows : List (List ℕ)) (closed old now new : List ℕ) (run : Run) (bits : ℕ) → length closed ≡ 31
    → ((place : ℕ) → is_in_run run.exits bits place ≡ passes_run closed old run place)
    → ((place : ℕ) → has_place now place ≡ (has_place old place || (nat_lt place 1984 && is_in_run run.exits bits place)))
    → GainsLed rows (is_in_run run.exits bits) now new → GainsPassed rows (is_passed closed old run) old new
GainsPassed-run rows closed old now new run bits long is put gains = record {
  kept = λ place at. gains.kept place (put place ∙ or_left _ _ at);
  passed = λ place at. gains.kept place (put place ∙ or_right (has_place old place) _ (in_bits place at));
  led = λ from to at leads_on. gains.led from to (is from ∙ (and_parts (nat_lt from 1984) _ at).1) leads_on;
  only = λ to at. ⊎_elim
      (λ at_now. ⊎_elim inl (λ in_run. inr (inl (out_bits to in_run)))
      (or_cases (has_place old to) (nat_lt to 1984 && is_in_run run.exits bits to) (sym (put to) ∙ at_now)))
      (λ led.
      let passes = sym (is led.0) ∙ led.1 in
      let low = place-low closed long led.0 (passed_by closed old run led.0 passes).shut in
      inr (inr (led.0, and_from _ _ low passes, led.2)))
      (gains.only to at);
  last = λ from to next at leads_on. gains.last from to next (is from ∙ (and_parts (nat_lt from 1984) _ at).1) leads_on;
} where
  in_bits : (place : ℕ) → is_passed closed old run place ≡ true → (nat_lt place 1984 && is_in_run run.exits bits place) ≡ true
  in_bits place at = ap (λ b. nat_lt place 1984 && b) (is place) ∙ at

  out_bits : (place : ℕ) → (nat_lt place 1984 && is_in_run run.exits bits place) ≡ true → is_passed closed old run place ≡ true
  out_bits place at = ap (λ b. nat_lt place 1984 && b) (sym (is place)) ∙ at

-- a run of which any bit is passed passes a place on
pub passed-some : (closed words : List ℕ) (run : Run) (bits : ℕ) → bits ≢ 0 → bits < 2 ^ 128 → length closed ≡ 31
    → ((place : ℕ) → is_in_run run.exits bits place ≡ passes_run closed words run place)
    → (place : ℕ) × (is_passed closed words run place ≡ true)
passed-some closed words run bits some small long is =
    let lowest = first_set bits (omega (arith, some)) small in
    let place : ℕ = run.exits + lowest.0 in
    let there : nat_le run.exits (run.exits + lowest.0) ≡ true = grind (arith, nat_tests) in
    let index : run.exits + lowest.0 - run.exits ≡ lowest.0 = omega arith in
    let passes : passes_run closed words run (run.exits + lowest.0) ≡ true =
    sym (is (run.exits + lowest.0)) ∙ and_from _ _ there (ap (is_bit bits) index ∙ lowest.1) in
    let low = place-low closed long (run.exits + lowest.0) (passed_by closed words run (run.exits + lowest.0) passes).shut in
    (run.exits + lowest.0, and_from _ _ low passes)

-- the contact of a run, and of the runs
pub contact_number : (runs : List Run) (from to : ℕ) → is_any_contact runs from to ≡ true
    → (number : ℕ) × (number < length runs) × ((default : Run) → is_contact (slice_index_or runs number default) from to ≡ true)
contact_number [] from to at = cc
contact_number (run ∷ runs) from to at = ⊎_elim
    (λ here. (0, omega arith, λ default. here))
    (λ there. let rest = contact_number runs from to there in (suc rest.0, omega (arith, rest.1), rest.2))
    (or_cases (is_contact run from to) (is_any_contact runs from to) at)

contact_any : (runs : List Run) (number from to : ℕ) (default : Run) → number < length runs
    → is_contact (slice_index_or runs number default) from to ≡ true → is_any_contact runs from to ≡ true
contact_any [] number from to default inside at = absurd (omega (arith, inside))
contact_any (run ∷ runs) zero from to default inside at = or_left _ _ at
contact_any (run ∷ runs) (suc number) from to default inside at =
    or_right (is_contact run from to) _ (contact_any runs number from to default (omega (arith, inside)) at)

contact_default : (runs : List Run) (number from to : ℕ) (one other : Run) → number < length runs
    → is_contact (slice_index_or runs number one) from to ≡ true → is_contact (slice_index_or runs number other) from to ≡ true
contact_default [] number from to one other inside at = absurd (omega (arith, inside))
contact_default (run ∷ runs) zero from to one other inside at = at
contact_default (run ∷ runs) (suc number) from to one other inside at =
    contact_default runs number from to one other (omega (arith, inside)) at

-- one run is passed on
pub IsPassedOn-run : (rows : List (List ℕ)) (runs : List Run) (closed old new : List ℕ) (number : ℕ) (default : Run) (has_passed : Bool)
    → length closed ≡ 31 → number < length runs
    → GainsPassed rows (is_passed closed old (slice_index_or runs number default)) old new
    → (has_passed ≡ true → (place : ℕ) × (is_passed closed old (slice_index_or runs number default) place ≡ true))
    → (has_passed ≡ false → (place : ℕ) → is_passed closed old (slice_index_or runs number default) place ≡ false)
    → IsPassedOn rows runs closed number (number + 1) old new has_passed
IsPassedOn-run rows runs closed old new number default has_passed long inside gains some none = record {
  kept = gains.kept;
  sound = λ emits reached place at. ⊎_elim
      (λ at_old. reached place at_old)
      (λ more. ⊎_elim
      (λ passed. by_run emits reached place passed)
      (λ led. by_row led.0 place (by_run emits reached led.0 led.1) led.2)
      more)
      (gains.only place at);
  joined = λ joined from to at leads_on. ⊎_elim
      (λ at_old. gains.kept to (joined from to at_old leads_on))
      (λ more. ⊎_elim
      (λ passed. gains.led from to passed leads_on)
      (λ led. absurd (false≢true (sym (gains.last led.0 from to led.1 led.2) ∙ leads_on)))
      more)
      (gains.only from at);
  some = λ is.
      let found = some is in
      (found.0, gains.passed found.0 found.1, (passed_by closed old run found.0 (and_parts (nat_lt found.0 1984) _ found.1).1).out);
  same = λ is place at. ⊎_elim
      (λ at_old. at_old)
      (λ more. ⊎_elim
      (λ passed. absurd (false≢true (sym (none is place) ∙ passed)))
      (λ led. absurd (false≢true (sym (none is led.0) ∙ led.1)))
      more)
      (gains.only place at);
  done = λ is other d low high within from to at contact shut.
      let same : other ≡ number = omega (arith, low, high) in
      nothing is from to at (of_run other d same within from to contact) shut (has_place old to) refl;
} where
  run : Run
  run = slice_index_or runs number default

  by_run : (emits : List ℕ) → ((place : ℕ) → has_place old place ≡ true → IsReached rows runs emits closed place)
      → (place : ℕ) → is_passed closed old run place ≡ true → IsReached rows runs emits closed place
  by_run emits reached place at =
      let passed = passed_by closed old run place (and_parts (nat_lt place 1984) _ at).1 in
      by_contact passed.from place (reached passed.from passed.at) (contact_any runs number passed.from place default inside passed.contact)
      passed.shut

  of_run : (other : ℕ) (d : Run) → other ≡ number → other < length runs → (from to : ℕ)
      → is_contact (slice_index_or runs other d) from to ≡ true → is_contact run from to ≡ true
  of_run other d same within from to at =
      contact_default runs number from to d default inside (ap (λ n. is_contact (slice_index_or runs n d) from to) (sym same) ∙ at)

  nothing : has_passed ≡ false → (from to : ℕ) → has_place old from ≡ true → is_contact run from to ≡ true → has_place closed to ≡ true
      → (b : Bool) → has_place old to ≡ b → has_place old to ≡ true
  nothing is from to at contact shut true there = there
  nothing is from to at contact shut false out =
      let low = place-low closed long to shut in
      absurd (false≢true (sym (none is to) ∙ and_from _ _ low (passes_on closed old run from to at contact shut out)))

-- some runs are passed on, and then those after them
pub IsPassedOn-then : (rows : List (List ℕ)) (runs : List Run) (closed : List ℕ) (first middle end : ℕ) (old now new : List ℕ) (before after : Bool)
    → IsPassedOn rows runs closed first middle old now before → IsPassedOn rows runs closed middle end now new after
    → IsPassedOn rows runs closed first end old new (before || after)
IsPassedOn-then rows runs closed first middle end old now new before after one other = record {
  kept = λ place at. other.kept place (one.kept place at);
  sound = λ emits reached. other.sound emits (one.sound emits reached);
  joined = λ joined. other.joined (one.joined joined);
  some = λ is. ⊎_elim
      (λ here. let found = one.some here in (found.0, other.kept found.0 found.1, found.2))
      (λ there. let found = other.some there in (found.0, found.1, out found.0 found.2 (has_place old found.0) refl))
      (or_cases before after is);
  same = λ is place at. one.same (neither _ _ is).0 place (other.same (neither before _ is).1 place at);
  done = λ is number d low high within from to at contact shut. ⊎_elim
      (λ (below : number < middle). one.done (neither _ _ is).0 number d low below within from to at contact shut)
      (λ above. one.same (neither _ _ is).0 to
      (other.done (neither before _ is).1 number d above high within from to (one.kept from at) contact shut))
      (cases_lt number middle);
} where
  neither : (a b : Bool) → (a || b) ≡ false → (a ≡ false) × (b ≡ false)
  neither false false e = (refl, refl)
  neither true b e = cc
  neither false true e = cc

  out : (place : ℕ) → has_place now place ≡ false → (b : Bool) → has_place old place ≡ b → has_place old place ≡ false
  out place none false is = is
  out place none true is = absurd (false≢true (sym none ∙ one.kept place is))

-- no run is none
pub IsPassedOn-start : (rows : List (List ℕ)) (runs : List Run) (closed words : List ℕ) (at : ℕ) → IsPassedOn rows runs closed at at words words false
IsPassedOn-start rows runs closed words at = record {
  kept = λ place held. held;
  sound = λ emits reached. reached;
  joined = λ joined. joined;
  some = λ is. cc;
  same = λ is place held. held;
  done = λ is number d low high. absurd (omega (arith, low, high));
}

-- after the last run there is no other
pub IsPassedOn-all : (rows : List (List ℕ)) (runs : List Run) (closed : List ℕ) (end : ℕ) (old new : List ℕ) (has_passed : Bool) → length runs ≤ end
    → IsPassedOn rows runs closed 0 end old new has_passed → IsPassedOn rows runs closed 0 (length runs) old new has_passed
IsPassedOn-all rows runs closed end old new has_passed past passed = record {
  kept = passed.kept;
  sound = passed.sound;
  joined = passed.joined;
  some = passed.some;
  same = passed.same;
  done = λ is number d low high within. passed.done is number d low (omega (arith, high, past)) within;
}
