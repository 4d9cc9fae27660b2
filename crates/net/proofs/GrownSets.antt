-- Sets of numbers below a bound, grown by one number after another until they have all that their numbers lead to.
use Rattle.std.proofs.Common.{◌≡◌, ◌≢◌, ℕ, zero, suc, ◌+◌, ◌<◌, ◌≤◌, ◌&&◌, ◌||◌, not, Bool, true, false, ◌⊎◌, inl, inr, refl, arith}
use Rattle.std.specs.Prelude.{◌==◌, if◌then◌else◌}
use Rattle.std.proofs.lemmas.Bool.{cases_Bool, cases_eq, or_cases, or_left, eqb-true}
use Rattle.std.proofs.lemmas.Bool.Decides.{nat_tests}

-- one of two things holds of each number: so the first of some number below a bound, or the other of all
below : (P Q : ℕ → Type 0) → ((number : ℕ) → P number ⊎ Q number) → (bound : ℕ)
    → ((number : ℕ) × (number < bound) × P number) ⊎ ((number : ℕ) → number < bound → Q number)
below P Q each zero = inr (λ number low. absurd (omega (arith, low)))
below P Q each (suc bound) = by (each bound) (below P Q each bound) where
  by : P bound ⊎ Q bound
      → ((number : ℕ) × (number < bound) × P number) ⊎ ((number : ℕ) → number < bound → Q number)
      → ((number : ℕ) × (number < suc bound) × P number) ⊎ ((number : ℕ) → number < suc bound → Q number)
  by (inl here) others = inl (bound, omega arith, here)
  by (inr here) (inl found) = let low = found.1 in inl (found.0, omega (arith, low), found.2)
  by (inr here) (inr others) = inr (λ number low. at number low (cases_eq number bound)) where
    at : (number : ℕ) → number < suc bound → (number ≡ bound) ⊎ (number ≢ bound) → Q number
    at number low (inl same) = rw same here
    at number low (inr other) = others number (omega (arith, low, other))

-- how many numbers below a bound a set lacks
abbrev missing : (ℕ → Bool) → ℕ → ℕ
missing set zero = 0
missing set (suc bound) = (if set bound then 0 else 1) + missing set bound

-- a set with one number more
abbrev with_number : ℕ → (ℕ → Bool) → ℕ → Bool
with_number number set other = set other || (other == number)

-- at each number, and so below a bound, a set lacks no more with one number more
lacks_no_more : (has is : Bool) → (if has || is then 0 else 1) ≤ (if has then 0 else 1)
lacks_no_more true is = omega arith
lacks_no_more false true = omega arith
lacks_no_more false false = omega arith

missing-no_more : (number : ℕ) (set : ℕ → Bool) (bound : ℕ) → missing (with_number number set) bound ≤ missing set bound
missing-no_more number set zero = omega arith
missing-no_more number set (suc bound) =
    let here = lacks_no_more (set bound) (bound == number) in
    let others = missing-no_more number set bound in
    omega (arith, here, others)

-- at a number that it lacked it lacks less
lacks_it : (has is : Bool) → has ≡ false → is ≡ true → (if has || is then 0 else 1) < (if has then 0 else 1)
lacks_it true is lacks same = cc
lacks_it false true lacks same = omega arith
lacks_it false false lacks same = cc

-- with a number that it lacked a set lacks fewer
missing-falls : (number : ℕ) (set : ℕ → Bool) (bound : ℕ) → number < bound → set number ≡ false
    → missing (with_number number set) bound < missing set bound
missing-falls number set zero low lacks = absurd (omega (arith, low))
missing-falls number set (suc bound) low lacks = elim (cases_eq number bound) [
  | inl same ↦
      let is : (bound == number) ≡ true = grind (arith, nat_tests, same) in
      let here = lacks_it (set bound) (bound == number) (rw same at lacks) is in
      let others = missing-no_more number set bound in
      omega (arith, here, others)
  | inr other ↦
      let here = lacks_no_more (set bound) (bound == number) in
      let others = missing-falls number set bound (omega (arith, low, other)) lacks in
      omega (arith, here, others)
]

-- A set that has what a first one had and what its numbers lead to, and nothing below the bound of which P does not hold.
pub record IsGrown (bound : ℕ) (leads : ℕ → ℕ → Bool) (P : ℕ → Type 0) (first set : ℕ → Bool) : Type 0 where
  pub starts : (number : ℕ) → first number ≡ true → set number ≡ true
  pub follows :
      (from to : ℕ) → from < bound → to < bound → set from ≡ true → leads from to ≡ true → set to ≡ true
  pub only : (number : ℕ) → number < bound → set number ≡ true → P number

module _ (bound : ℕ) (leads : ℕ → ℕ → Bool) (P : ℕ → Type 0)
    (keeps : (from to : ℕ) → from < bound → to < bound → P from → leads from to ≡ true → P to) where
  -- whether a number of the set leads to one that it lacks
  abbrev is_open : (ℕ → Bool) → ℕ → ℕ → Bool
  is_open set from to = set from && (leads from to && not (set to))

  abbrev Opens : (ℕ → Bool) → ℕ → Type 0
  Opens set from = (to : ℕ) × (to < bound) × (is_open set from to ≡ true)

  abbrev Closes : (ℕ → Bool) → ℕ → Type 0
  Closes set from = (to : ℕ) → to < bound → is_open set from to ≡ false

  -- a number leads from the set to some number that it lacks, or to none
  opens_or_closes : (set : ℕ → Bool) (from : ℕ) → Opens set from ⊎ Closes set from
  opens_or_closes set from =
      below (λ to. is_open set from to ≡ true) (λ to. is_open set from to ≡ false)
      (λ to. cases_Bool (is_open set from to)) bound

  -- what that says of a number, of a lead and of where it leads to
  followed : (one led other : Bool) → (one && (led && not other)) ≡ false → one ≡ true → led ≡ true → other ≡ true
  followed one led true closed at leads = refl
  followed true true false closed at leads = cc
  followed true false false closed at leads = cc
  followed false led false closed at leads = cc

  parts : (one led other : Bool) → (one && (led && not other)) ≡ true
      → (one ≡ true) × (led ≡ true) × (other ≡ false)
  parts true true false at = (refl, refl, refl)
  parts true true true at = cc
  parts true false other at = cc
  parts false led other at = cc

  -- where none does, the set has all that its numbers lead to
  closed_set : (set : ℕ → Bool) → ((from : ℕ) → from < bound → Closes set from)
      → ((number : ℕ) → number < bound → set number ≡ true → P number) → IsGrown bound leads P set set
  closed_set set closed only = record {
    starts = λ number at. at;
    follows = λ from to low low_to at led. followed (set from) (leads from to) (set to) (closed from low to low_to) at led;
    only = only;
  }

  -- where one does, the set is grown by what it leads to, and of that P holds
  more_only : (set : ℕ → Bool) (to : ℕ) → P to → ((number : ℕ) → number < bound → set number ≡ true → P number)
      → (number : ℕ) → number < bound → with_number to set number ≡ true → P number
  more_only set to P_to only number low at = elim (or_cases (set number) (number == to) at) [
    | inl before ↦ only number low before
    | inr same ↦ rw (eqb-true number to same) P_to
  ]

  more_set : (set all : ℕ → Bool) (to : ℕ) → IsGrown bound leads P (with_number to set) all
      → IsGrown bound leads P set all
  more_set set all to more = record {
    starts = λ number at. more.starts number (or_left (set number) (number == to) at);
    follows = more.follows;
    only = more.only;
  }

  -- a search through all numbers that may lead on, and all that they may lead to
  search : (set : ℕ → Bool)
      → ((from : ℕ) × (from < bound) × Opens set from) ⊎ ((from : ℕ) → from < bound → Closes set from)
  search set = below (Opens set) (Closes set) (opens_or_closes set) bound

  -- What is led to is added, one number at a time, as long as there is any: at most as many times as the set lacks numbers.
  grown : (fuel : ℕ) (set : ℕ → Bool) → missing set bound ≤ fuel
      → ((number : ℕ) → number < bound → set number ≡ true → P number)
      → (all : ℕ → Bool) × IsGrown bound leads P set all
  grown zero set enough only = elim (search set) [
    | inl (from, low, (to, low_to, opens)) ↦
        let found = parts (set from) (leads from to) (set to) opens in
        let falls = missing-falls to set bound low_to found.2 in
        absurd (omega (arith, enough, falls))
    | inr closed ↦ (set, closed_set set closed only)
  ]
  grown (suc fuel) set enough only = elim (search set) [
    | inl (from, low, (to, low_to, opens)) ↦
        let found = parts (set from) (leads from to) (set to) opens in
        let falls = missing-falls to set bound low_to found.2 in
        let P_to : P to = keeps from to low low_to (only from low found.0) found.1 in
        let more = grown fuel (with_number to set) (omega (arith, enough, falls)) (more_only set to P_to only) in
        (more.0, more_set set more.0 to more.1)
    | inr closed ↦ (set, closed_set set closed only)
  ]

  -- so each set of numbers of which P holds grows to one that has all that its numbers lead to
  pub grown_set : (first : ℕ → Bool) → ((number : ℕ) → number < bound → first number ≡ true → P number)
      → (all : ℕ → Bool) × IsGrown bound leads P first all
  grown_set first only = grown (missing first bound) first (omega arith) only
