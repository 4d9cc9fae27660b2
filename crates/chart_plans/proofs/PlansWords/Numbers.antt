-- The number of the part that serves a thing, by a test of what is served.
use Rattle.std.proofs.Common.{◌≡◌, ◌∙◌, ◌⊎◌, inl, inr, refl, sym, ap, subst, ℕ, zero, suc, ◌+◌, ◌≤◌, ◌<◌, Bool, true, List, [], ◌∷◌, ◌++◌, length, take, Option, Some, None, get_or, slice_get, position, arith}
use Rattle.std.proofs.lemmas.Bool.{cases_lt}
use Rattle.std.proofs.lemmas.Grind.{same_number_lists}
use Rattle.std.proofs.lemmas.List.{get_or-take, length-take-le}
use Rattle.std.specs.List.{Contains, range_with_len}
use Rattle.std.specs.Option.{option_and_then}
use Rattle.std.proofs.lemmas.List.FromFn.{get_or-range_with_len, length-range_with_len}
use Rattle.std.proofs.lemmas.Option.{get_or_from_slice_get, slice_get-get_or, slice_get_within}
use Rattle.chart_lines.proofs.ChartsWords.Listed.{StandsAt, position-stands, position-passing, position-within}
use Rattle.chart_plans.specs.PlansWords.PartNumbers.{AreApart, AreInOrder, AreNumbers, AreNumbersOf, PartNumbers, count_of, last_of, number_for}
use Rattle.chart_plans.specs.PlansWords.Plans.{IsWithinMachine}
use Rattle.chart_plans.specs.declared.plans.part_numbers.PartKind.{PartKind}
use Rattle.chart_plans.specs.declared.plans.part_numbers.PartKind.TheVariants as kind
use Rattle.chart_lines.specs.declared.charts.level.ControlLevel.TheVariants as control
use Rattle.chart_plans.specs.WantedWords.Wanted.{Parts}

-- A number of a part, from 1.
pub record HasNumber (given : Option ℕ) (last : ℕ) : Type 0 where
  pub n : ℕ
  pub is : given ≡ Some n
  pub from : 1 ≤ n
  pub to : n ≤ last

-- where what a number serves stands
pub record Serving {X : Type 0} (test : X → Bool) (list : List X) (numbers : List ℕ) (n : ℕ) : Type 0 where
  pub place : ℕ
  pub at : position test list ≡ Some place
  pub given : slice_get numbers place ≡ Some n
  pub stands : StandsAt test list place

pub number-serves : {X : Type 0} (test : X → Bool) (list : List X) (numbers : List ℕ) (n : ℕ) → number_for test list numbers ≡ Some n
    → Serving test list numbers n
number-serves test list numbers n is = by (position test list) refl is
  where
    by : (o : Option ℕ) → position test list ≡ o → option_and_then (slice_get numbers) o ≡ Some n → Serving test list numbers n
    by None found same = cc
    by (Some place) found same = record { place = place; at = found; given = same; stands = position-stands test list place found }

-- a number is that of a part of the machine
pub number-there : {X : Type 0} (test : X → Bool) (list : List X) (numbers : List ℕ) (last things n : ℕ) → AreNumbers last things numbers
    → number_for test list numbers ≡ Some n → (1 ≤ n) × (n ≤ last)
number-there test list numbers last things n are is =
    let serving = number-serves test list numbers n is in
    are.there serving.place n serving.given

-- what a number serves passes both tests that give it
pub both-stand : {X : Type 0} (one other : X → Bool) (list : List X) (numbers : List ℕ) (last things n : ℕ) → AreNumbers last things numbers
    → number_for one list numbers ≡ Some n → number_for other list numbers ≡ Some n → (x : X) × (one x ≡ true) × (other x ≡ true)
both-stand {X} one other list numbers last things n are is is_other =
    let a = number-serves one list numbers n is in
    let b = number-serves other list numbers n is_other in
    let places : b.place ≡ a.place = are.own b.place a.place n b.given a.given in
    let same : b.stands.element ≡ a.stands.element
    = by (sym (ap (slice_get list) places) ∙ b.stands.there) a.stands.there in
    (a.stands.element, a.stands.passes, sym (ap other same) ∙ b.stands.passes)
  where
    by : {o : Option X} {x y : X} → o ≡ Some x → o ≡ Some y → x ≡ y
    by p q = cc

-- where a thing passes, there is a number
pub number-given : {X : Type 0} (test : X → Bool) (list : List X) (numbers : List ℕ) (last : ℕ) (x : X) → AreNumbers last (length list) numbers
    → Contains list x → test x ≡ true → HasNumber (number_for test list numbers) last
number-given test list numbers last x are there passes =
    let (place, at) = position-passing test list x there passes in
    let within = position-within test list place (sym at) in
    let few : place < length numbers = omega (arith, within, are.many) in
    let n = get_or numbers place 0 in
    let given : slice_get numbers place ≡ Some n = slice_get-get_or numbers place 0 few in
    let range = are.there place n given in
    record { n = n; is = ap (option_and_then (slice_get numbers)) at ∙ given; from = range.0; to = range.1 }

-- one number more
pub first-more : (from many : ℕ) → range_with_len from (many + 1) ≡ range_with_len from many ++ (from + many) ∷ []
first-more from many =
    let next : suc many ≡ many + 1 = omega arith in
    subst (λ n. range_with_len from n ≡ range_with_len from many ++ (from + many) ∷ []) next (by from many)
  where
    by : (a n : ℕ) → range_with_len a (suc n) ≡ range_with_len a n ++ (a + n) ∷ []
    by a zero = let same : a ≡ a + 0 = omega arith in ap (λ k. k ∷ []) same
    by a (suc n) =
        let same : (a + 1) + n ≡ a + suc n = omega arith in
        ap (λ xs. a ∷ xs) (by (a + 1) n ∙ ap (λ k. range_with_len (a + 1) n ++ k ∷ []) same)

-- of the first numbers none is told twice
pub record AreApartBelow (numbers : List ℕ) (count : ℕ) : Type 0 where
  pub apart : (one other number : ℕ) → one < count → other < count → slice_get numbers one ≡ Some number
      → slice_get numbers other ≡ Some number → one ≡ other

-- a number before a place is one of those before it
before : (numbers : List ℕ) (place one number : ℕ) → one < place → place ≤ length numbers → slice_get numbers one ≡ Some number
    → Contains (take place numbers) number
before numbers place one number less within at = (
  one,
  omega (arith, less, length-take-le place numbers within),
  get_or-take place numbers one number less ∙ get_or_from_slice_get numbers one number number at,
)

-- one number more that is none of those before
pub apart-more : (numbers : List ℕ) (place number : ℕ) → place < length numbers → slice_get numbers place ≡ Some number
    → ¬ Contains (take place numbers) number → AreApartBelow numbers place → AreApartBelow numbers (place + 1)
apart-more numbers place number within at new below = record {
  apart = λ one other each less less_too here there. by one other each (cases_lt one place) (cases_lt other place) less less_too here there;
}
  where
    by : (one other each : ℕ) → (one < place) ⊎ (place ≤ one) → (other < place) ⊎ (place ≤ other) → one < place + 1 → other < place + 1
        → slice_get numbers one ≡ Some each → slice_get numbers other ≡ Some each → one ≡ other
    by one other each (inl a) (inl b) less less_too here there = below.apart one other each a b here there
    by one other each (inr a) (inr b) less less_too here there = omega (arith, a, b, less, less_too)
    by one other each (inl a) (inr b) less less_too here there =
        let same : other ≡ place = omega (arith, b, less_too) in
        let is : each ≡ number = let e : Some each ≡ Some number = sym there ∙ ap (slice_get numbers) same ∙ at in cc in
        absurd (new (before numbers place one number a (omega (arith, within)) (here ∙ ap Some is)))
    by one other each (inr a) (inl b) less less_too here there =
        let same : one ≡ place = omega (arith, a, less) in
        let is : each ≡ number = let e : Some each ≡ Some number = sym here ∙ ap (slice_get numbers) same ∙ at in cc in
        absurd (new (before numbers place other number b (omega (arith, within)) (there ∙ ap Some is)))

-- all of them
pub apart-all : (numbers : List ℕ) (count : ℕ) → length numbers ≤ count → AreApartBelow numbers count → AreApart numbers
apart-all numbers count past below one other number here there =
    below.apart one other number (omega (arith, past, slice_get_within numbers one number here))
    (omega (arith, past, slice_get_within numbers other number there)) here there

-- not where one is among those before it
pub not-apart : (numbers : List ℕ) (place number : ℕ) → place < length numbers → slice_get numbers place ≡ Some number
    → Contains (take place numbers) number → ¬ AreApart numbers
not-apart numbers place number within at (k, less, is) apart =
    let short = length-take-le place numbers (omega (arith, within)) in
    let lower : k < place = omega (arith, less, short) in
    let here : slice_get numbers k ≡ Some number =
    slice_get-get_or numbers k number (omega (arith, lower, within)) ∙ ap Some (sym (get_or-take place numbers k number lower) ∙ is) in
    let same = apart k place number here at in
    omega (arith, same, lower)

-- the first of some numbers are 1, 2 and so on
pub record AreFirstBelow (numbers : List ℕ) (count : ℕ) : Type 0 where
  pub first : (place : ℕ) → place < count → get_or numbers place 0 ≡ 1 + place

-- one number more that is the next
pub first-below-more : (numbers : List ℕ) (place : ℕ) → get_or numbers place 0 ≡ place + 1 → AreFirstBelow numbers place
    → AreFirstBelow numbers (place + 1)
first-below-more numbers place is below = record { first = λ other less. by other (cases_lt other place) less } where
  by : (other : ℕ) → (other < place) ⊎ (place ≤ other) → other < place + 1 → get_or numbers other 0 ≡ 1 + other
  by other (inl lower) less = below.first other lower
  by other (inr past) less =
      let same : other ≡ place = omega (arith, past, less) in
      let there : get_or numbers other 0 ≡ get_or numbers place 0 = ap (λ k. get_or numbers k 0) same in
      omega (arith, there, is, same)

-- all of them
pub first-all : (numbers : List ℕ) (things count : ℕ) → length numbers ≡ things → length numbers ≤ count → AreFirstBelow numbers count
    → numbers ≡ range_with_len 1 things
first-all numbers things count many past below =
    same_number_lists numbers (range_with_len 1 things) (many ∙ sym (length-range_with_len 1 things))
    (λ k less.
    let within : k < things = omega (arith, less, many) in
    below.first k (omega (arith, less, past)) ∙ sym (get_or-range_with_len 1 things k 0 within))

-- not if one is another
pub not-first : (numbers : List ℕ) (things place : ℕ) → place < length numbers → ¬ (get_or numbers place 0 ≡ place + 1)
    → ¬ (numbers ≡ range_with_len 1 things)
not-first numbers things place within other same =
    let long : length numbers ≡ things = ap length same ∙ length-range_with_len 1 things in
    let there : get_or numbers place 0 ≡ 1 + place =
    ap (λ (list : List ℕ). get_or list place 0) same ∙ get_or-range_with_len 1 things place 0 (omega (arith, within, long)) in
    other (omega (arith, there))

-- nor if there are more or less
pub not-first-by-length : (numbers : List ℕ) (things : ℕ) → ¬ (length numbers ≡ things) → ¬ (numbers ≡ range_with_len 1 things)
not-first-by-length numbers things other same = other (ap length same ∙ length-range_with_len 1 things)

-- the parts 1, 2 and so on serve as many things, where there are no more things than parts
pub first-numbers : (last things : ℕ) → things ≤ last → AreNumbers last things (range_with_len 1 things)
first-numbers last things few = record {
  many = length-range_with_len 1 things;
  there = λ place number at.
      let within = slice_get_within (range_with_len 1 things) place number at in
      let is = value place number at in
      (omega (arith, is), omega (arith, is, within, few, length-range_with_len 1 things));
  own = λ one other number at at_other.
      let is = value one number at in
      let also = value other number at_other in
      omega (arith, is, also);
}
  where
    value : (place number : ℕ) → slice_get (range_with_len 1 things) place ≡ Some number → number ≡ 1 + place
    value place number at =
        let within = slice_get_within (range_with_len 1 things) place number at in
        sym (get_or_from_slice_get (range_with_len 1 things) place number 0 at)
        ∙ get_or-range_with_len 1 things place 0 (omega (arith, within, length-range_with_len 1 things))

-- and so of each kind
pub in-order : (parts : Parts) (numbers : PartNumbers) → IsWithinMachine parts → AreInOrder parts numbers → AreNumbersOf parts numbers
in-order parts numbers within ordered each = rw (ordered each) (first-numbers (last_of each) (count_of parts each) (few each)) where
  few : (of : PartKind) → count_of parts of ≤ last_of of
  few kind.Pilot = within.pilots
  few kind.Comparing = within.comparing
  few kind.Storage = within.storage
  few kind.Split = within.splits
  few (kind.Indicate control.Minor) = within.minor
  few (kind.Indicate control.Intermediate) = within.intermediate
  few (kind.Indicate control.Major) = within.major
