-- The search for what is reached: it adds nothing else, it stops only where nothing is left out, and it stops.
use Rattle.std.proofs.Common.{⊎_elim, ◌⊎◌, inl, inr, ◌↔◌, ◌≡◌, ℕ, zero, suc, ◌+◌, ◌<◌, ◌≤◌, ◌∙◌, sym, ap, refl, arith, Bool, true, false, List, [], length, slice_index_or}
use Rattle.std.specs.Prelude.{if◌then◌else◌}
use Rattle.std.proofs.lemmas.Bool.{cases_lt, false≢true}
use Rattle.machine_sets.specs.BitSets.Bits.{has_place}
use Rattle.machine_sets.specs.BitSets.Contacts.{AreCommons, ArePlacesApart, is_any_contact}
use Rattle.machine_sets.specs.BitSets.Passing.{IsPassedOn}
use Rattle.machine_sets.specs.BitSets.Reached.{IsReached}
use Rattle.machine_sets.specs.BitSets.Reached.IsReached.{emitting, by_row, by_contact}
use Rattle.machine_sets.specs.BitSets.Rows.{GainsLed, leads}
use Rattle.machine_sets.specs.declared.bit_sets.contacts.Run.{Run}
use Rattle.machine_sets.proofs.BitSets.PassLemmas.{contact_number}
use Rattle.machine_sets.proofs.BitSets.PlaceLemmas.{has_place-past}

-- how many of the first places a set does not have
unfoldable pub missing_below : List ℕ → ℕ → ℕ
missing_below words zero = 0
missing_below words (suc n) = (if has_place words n then 0 else 1) + missing_below words n

abbrev IsWithin : List ℕ → List ℕ → Type 0
IsWithin old new = (place : ℕ) → has_place old place ≡ true → has_place new place ≡ true

-- more in a set, no more missing
missing-fewer : (old new : List ℕ) → IsWithin old new → (n : ℕ) → missing_below new n ≤ missing_below old n
unfolding missing_below
missing-fewer old new within zero = omega arith
missing-fewer old new within (suc n) =
    let before = missing-fewer old new within n in
    by (has_place old n) (has_place new n) (within n) _ _ before where
      by : (a b : Bool) → (a ≡ true → b ≡ true) → (x y : ℕ) → y ≤ x → (if b then 0 else 1) + y ≤ (if a then 0 else 1) + x
      by true true f x y le = omega arith
      by true false f x y le = let never = f refl in cc
      by false true f x y le = omega arith
      by false false f x y le = omega arith

-- a new place in a set, one missing less
missing-less : (old new : List ℕ) → IsWithin old new → (place : ℕ) → has_place old place ≡ false → has_place new place ≡ true
    → (n : ℕ) → place < n → missing_below new n + 1 ≤ missing_below old n
unfolding missing_below
missing-less old new within place out at zero low = absurd (omega arith)
missing-less old new within place out at (suc n) low =
    ⊎_elim
    (λ (below : place < n).
    let before = missing-less old new within place out at n below in
    by (has_place old n) (has_place new n) (within n) _ _ before)
    (λ above.
    let same : place ≡ n = omega arith in
    let others = missing-fewer old new within n in
    here (has_place old n) (has_place new n) (ap (has_place old) (sym same) ∙ out) (ap (has_place new) (sym same) ∙ at) _ _ others)
    (cases_lt place n) where
      by : (a b : Bool) → (a ≡ true → b ≡ true) → (x y : ℕ) → y + 1 ≤ x
          → (if b then 0 else 1) + y + 1 ≤ (if a then 0 else 1) + x
      by true true f x y le = omega arith
      by true false f x y le = let never = f refl in cc
      by false true f x y le = omega arith
      by false false f x y le = omega arith

      here : (a b : Bool) → a ≡ false → b ≡ true → (x y : ℕ) → y ≤ x
          → (if b then 0 else 1) + y + 1 ≤ (if a then 0 else 1) + x
      here false true e f x y le = omega arith
      here true b e f x y le = cc
      here false false e f x y le = cc

-- The state of a search: the set has what emits, nothing that is not reached, and what the rows of its places lead to; where nothing is
-- new, no closed contact leads out of it.
pub record IsSearching (rows : List (List ℕ)) (runs : List Run) (emits closed words : List ℕ) (has_new : Bool) : Type 0 where
  pub kept : IsWithin emits words
  pub sound : (place : ℕ) → has_place words place ≡ true → IsReached rows runs emits closed place
  pub joined : (from to : ℕ) → has_place words from ≡ true → leads rows from to ≡ true → has_place words to ≡ true
  pub passed :
      has_new ≡ false → (from to : ℕ) → has_place words from ≡ true → is_any_contact runs from to ≡ true
      → has_place closed to ≡ true → has_place words to ≡ true

-- it begins with the rows of what emits
pub IsSearching-start : (rows : List (List ℕ)) (runs : List Run) (emits closed commons words : List ℕ) (has_new : Bool)
    → length words ≡ 31 → GainsLed rows (has_place emits) emits words → AreCommons runs commons → (has_new ≡ false → ArePlacesApart commons words)
    → IsSearching rows runs emits closed words has_new
IsSearching-start rows runs emits closed commons words has_new long gains are_commons apart = record {
  kept = gains.kept;
  sound = λ place at.
      ⊎_elim (λ at_emits. emitting place at_emits) (λ led. by_row led.0 place (emitting led.0 led.1) led.2) (gains.only place at);
  joined = λ from to at leads_on.
      ⊎_elim
      (λ at_emits. gains.led from to at_emits leads_on)
      (λ led. absurd (false≢true (sym (gains.last led.0 from to led.1 led.2) ∙ leads_on)))
      (gains.only from at);
  passed = λ over from to at contact shut.
      let low : from < 1984 = inside from at (cases_lt from 1984) in
      absurd (false≢true (sym (apart over from (are_commons from to low contact)) ∙ at));
} where
  inside : (from : ℕ) → has_place words from ≡ true → (from < 1984) ⊎ (1984 ≤ from) → from < 1984
  inside from at (inl low) = low
  inside from at (inr high) = absurd (false≢true (sym (has_place-past words from (omega (arith, long, high))) ∙ at))

-- it goes on with the contacts
pub IsSearching-next : (rows : List (List ℕ)) (runs : List Run) (emits closed words new : List ℕ) (had has_new : Bool)
    → IsSearching rows runs emits closed words had → IsPassedOn rows runs closed 0 (length runs) words new has_new
    → IsSearching rows runs emits closed new has_new
IsSearching-next rows runs emits closed words new had has_new before passed = record {
  kept = λ place at. passed.kept place (before.kept place at);
  sound = passed.sound emits before.sound;
  joined = passed.joined before.joined;
  passed = λ over from to at contact shut.
      let number = contact_number runs from to contact in
      passed.kept to (passed.done over number.0 (slice_index_or runs number.0 record { common = 0; exits = 0; count = 0 }) (omega arith) number.1 number.1 from to (passed.same over from at)
      (number.2 _) shut);
}

-- and comes nearer to the end
pub missing-step : (rows : List (List ℕ)) (runs : List Run) (closed words new : List ℕ) (has_new : Bool) → length new ≡ 31
    → IsPassedOn rows runs closed 0 (length runs) words new has_new
    → missing_below new 1984 + (if has_new then 1 else 0) ≤ missing_below words 1984
missing-step rows runs closed words new has_new long passed = by has_new refl where
  by : (b : Bool) → has_new ≡ b → missing_below new 1984 + (if b then 1 else 0) ≤ missing_below words 1984
  by false is = let fewer = missing-fewer words new passed.kept 1984 in omega arith
  by true is =
      let found = passed.some is in
      missing-less words new passed.kept found.0 found.2 found.1 1984 (inside found.0 found.1 (cases_lt found.0 1984)) where
        inside : (place : ℕ) → has_place new place ≡ true → (place < 1984) ⊎ (1984 ≤ place) → place < 1984
        inside place at (inl low) = low
        inside place at (inr high) = absurd (false≢true (sym (has_place-past new place (omega (arith, long, high))) ∙ at))

-- and so the loop's measure is less
pub smaller : (now before : ℕ) (had : Bool) → had ≡ true → now ≤ before → now < before + (if had then 1 else 0)
smaller now before true is le = omega arith
smaller now before false is le = cc

-- where nothing is new it has found what is reached
pub IsReached-found : (rows : List (List ℕ)) (runs : List Run) (emits closed words : List ℕ) (has_new : Bool)
    → has_new ≡ false → IsSearching rows runs emits closed words has_new → (place : ℕ)
    → (has_place words place ≡ true) ↔ IsReached rows runs emits closed place
IsReached-found rows runs emits closed words has_new over searching place = (searching.sound place, found) where
  found : {place : ℕ} → IsReached rows runs emits closed place → has_place words place ≡ true
  found (emitting place at) = searching.kept place at
  found (by_row from to at leads_on) = searching.joined from to (found at) leads_on
  found (by_contact from to at contact shut) = searching.passed over from to (found at) contact shut

-- where no contact is closed, the places and what their rows lead to are all that is reached
pub IsReached-by_rows : (rows : List (List ℕ)) (runs : List Run) (emits now : List ℕ)
    → GainsLed rows (has_place emits) emits now → (place : ℕ)
    → (has_place now place ≡ true) ↔ IsReached rows runs emits [] place
IsReached-by_rows rows runs emits now gains place = (sound place, found) where
  sound : (place : ℕ) → has_place now place ≡ true → IsReached rows runs emits [] place
  sound place at =
      ⊎_elim (λ at_emits. emitting place at_emits) (λ led. by_row led.0 place (emitting led.0 led.1) led.2) (gains.only place at)

  found : {place : ℕ} → IsReached rows runs emits [] place → has_place now place ≡ true
  found (emitting place at) = gains.kept place at
  found (by_row from to at leads) =
      ⊎_elim
      (λ at_emits. gains.led from to at_emits leads)
      (λ led. absurd (false≢true (sym (gains.last led.0 from to led.1 led.2) ∙ leads)))
      (gains.only from (found at))
  found (by_contact from to at contact shut) = absurd (false≢true (sym (has_place-past [] to (omega arith)) ∙ shut))
