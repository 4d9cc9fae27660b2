-- Lists in which nothing stands twice: what stands at a place is found there first, so that the numbers that serve the list are those of
-- what it has, one after the other.
use Rattle.std.proofs.Common.{◌≡◌, ◌∙◌, refl, sym, ap, subst, ℕ, zero, suc, ◌+◌, ◌<◌, ◌≤◌, inl, inr, Bool, true, false, cond, List, [], ◌∷◌, ◌++◌, flat_map, Contains, Option, Some, None, length, map, filter, drop, get_or, slice_get, position, filter_map, arith}
use Rattle.std.specs.List.{cons_option, range_with_len}
use Rattle.std.specs.Option.{option_and_then}
use Rattle.std.proofs.Math.Seq.{drop-cons}
use Rattle.std.proofs.lemmas.List.{drop_all}
use Rattle.std.proofs.lemmas.List.Elements.{Contains-append_cases}
use Rattle.std.proofs.lemmas.List.FromFn.{get_or-range_with_len, length-range_with_len}
use Rattle.std.proofs.lemmas.Option.{slice_get-get_or, slice_get_within}
use Rattle.chart_lines.specs.ChartsWords.Chart.{NumbersRise}
use Rattle.chart_lines.specs.ChartsWords.Field.{columns_of}
use Rattle.chart_lines.specs.declared.charts.chart.Line.{Line}
use Rattle.chart_lines.specs.declared.charts.statement.Field.{Field}
use Rattle.chart_lines.proofs.ChartsWords.Listed.{listed-after, listed-at, listed-cases, listed-first, listed-none, position-passing, position-stands}
use Rattle.chart_lines.proofs.ChartsWords.Rising.{NumbersRise-tail, number-above}
use Rattle.match_plans.proofs.Zipped.{map-listed, parts-listed}
use Rattle.chart_plans.specs.PlansWords.PartNumbers.{number_for}
use Rattle.chart_plans.specs.WantedWords.Positions.{positions_for}
use Rattle.chart_plans.specs.declared.wanted.position.Position.{Position}
use Rattle.wiring_table.specs.Parts.{column_on}

-- each thing of a list has one place
abbrev pub HasOwnPlaces : {X : Type 0} → List X → Type 0
HasOwnPlaces {X} xs = (x : X) (one other : ℕ) → slice_get xs one ≡ Some x → slice_get xs other ≡ Some x → one ≡ other

-- nothing stands twice
abbrev pub AllApart : {X : Type 0} → List X → Type 0
AllApart [] = Unit {0}
AllApart (x ∷ xs) = (¬ Contains xs x) × AllApart xs

-- so each thing has one place
pub own-place : {X : Type 0} (xs : List X) → AllApart xs → HasOwnPlaces xs
own-place [] apart x one other here there = cc
own-place (y ∷ ys) apart x zero zero here there = refl
own-place (y ∷ ys) apart x zero (suc k) here there =
    let same : y ≡ x = cc in
    absurd (apart.0 (subst (Contains ys) (sym same) (listed-at ys k x there)))
own-place (y ∷ ys) apart x (suc k) zero here there =
    let same : y ≡ x = cc in
    absurd (apart.0 (subst (Contains ys) (sym same) (listed-at ys k x here)))
own-place (y ∷ ys) apart x (suc k) (suc j) here there = ap suc (own-place ys apart.1 x k j here there)

-- and is found there by a test that only it passes
pub first-place : {X : Type 0} (test : X → Bool) (xs : List X) (x : X) (place : ℕ) → HasOwnPlaces xs → slice_get xs place ≡ Some x
    → test x ≡ true → ((y : X) → test y ≡ true → y ≡ x) → position test xs ≡ Some place
first-place test xs x place apart here passes only =
    let (found, at) = position-passing test xs x (listed-at xs place x here) passes in
    let stands = position-stands test xs found at in
    let same = only stands.element stands.passes in
    at ∙ ap Some (apart x found place (stands.there ∙ ap Some same) here)

-- the numbers of all things of such a list, in its order
module _ {X : Type 0} (test : X → X → Bool) (own : (x : X) → test x x ≡ true) (only : (x y : X) → test x y ≡ true → y ≡ x)
    (all : List X) (numbers : List ℕ) (many : length numbers ≡ length all) (apart : HasOwnPlaces all) where
  pub number-at : (x : X) (place : ℕ) → slice_get all place ≡ Some x → number_for (test x) all numbers ≡ slice_get numbers place
  number-at x place here = ap (option_and_then (slice_get numbers)) (first-place (test x) all x place apart here (own x) (only x))

  numbers-from : (rest : List X) (place : ℕ) → drop place all ≡ rest → place ≤ length all
      → filter_map (λ x. number_for (test x) all numbers) rest ≡ drop place numbers
  numbers-from [] place is within = sym (drop_all place numbers (omega (arith, many, short)))
    where
      short : length all ≤ place
      short = no-more all place is
        where
          no-more : (xs : List X) (k : ℕ) → drop k xs ≡ [] → length xs ≤ k
          no-more [] k none = omega arith
          no-more (y ∷ ys) zero none = cc
          no-more (y ∷ ys) (suc k) none = let less = no-more ys k none in omega (arith, less)
  numbers-from (x ∷ rest) place is within =
      let here : slice_get all place ≡ Some x = stands all place is in
      let less = slice_get_within all place x here in
      let few : place < length numbers = omega (arith, less, many) in
      let number = get_or numbers place 0 in
      let given : number_for (test x) all numbers ≡ Some number = number-at x place here ∙ slice_get-get_or numbers place 0 few in
      let later = numbers-from rest (suc place) (after all place is) (omega (arith, less)) in
      ap (λ o. cons_option o (filter_map (λ y. number_for (test y) all numbers) rest)) given
      ∙ ap (λ ns. number ∷ ns) later ∙ sym (drop-cons numbers place 0 few)
    where
      stands : (xs : List X) (k : ℕ) → drop k xs ≡ x ∷ rest → slice_get xs k ≡ Some x
      stands [] zero e = cc
      stands [] (suc k) e = cc
      stands (y ∷ ys) zero e = cc
      stands (y ∷ ys) (suc k) e = stands ys k e

      after : (xs : List X) (k : ℕ) → drop k xs ≡ x ∷ rest → drop (suc k) xs ≡ rest
      after [] zero e = cc
      after [] (suc k) e = cc
      after (y ∷ ys) zero e = cc
      after (y ∷ ys) (suc k) e = after ys k e

  pub all-numbers : filter_map (λ x. number_for (test x) all numbers) all ≡ numbers
  all-numbers = numbers-from all 0 refl (omega arith)

-- what a list of lines by their numbers has
pub record LineOf (lines : List Line) (test : Line → Bool) (number : ℕ) : Type 0 where
  pub line : Line
  pub listed : Contains lines line
  pub is : line.number ≡ number

line-of : (test : Line → Bool) (lines : List Line) (number : ℕ) → Contains (map (λ (line : Line). line.number) (filter test lines)) number
    → LineOf lines test number
line-of test [] number there = absurd (listed-none number there)
line-of test (line ∷ rest) number there = by (line-of test rest number) (test line) there
  where
    after : LineOf rest test number → LineOf (line ∷ rest) test number
    after later = record { line = later.line; listed = listed-after line rest later.listed; is = later.is }

    by : (Contains (map (λ (each : Line). each.number) (filter test rest)) number → LineOf rest test number) → (b : Bool)
        → Contains (map (λ (each : Line). each.number) (cond b (line ∷ filter test rest) (filter test rest))) number
        → LineOf (line ∷ rest) test number
    by below false there = after (below there)
    by below true there = elim (listed-cases number line.number (map (λ (each : Line). each.number) (filter test rest)) there) [
      | inl same ↦ record { line = line; listed = listed-first line rest; is = same }
      | inr later ↦ after (below later)
    ]

-- the numbers of the lines that pass a test stand there once
pub apart-lines : (test : Line → Bool) (lines : List Line) (end : ℕ) → NumbersRise lines end
    → AllApart (map (λ (line : Line). line.number) (filter test lines))
apart-lines test [] end rise = tt
apart-lines test (line ∷ rest) end rise = by (test line) (apart-lines test rest end (NumbersRise-tail line rest end rise))
  where
    by : (b : Bool) → AllApart (map (λ (each : Line). each.number) (filter test rest))
        → AllApart (map (λ (each : Line). each.number) (cond b (line ∷ filter test rest) (filter test rest)))
    by false below = below
    by true below = (
      λ there.
          let found = line-of test rest line.number there in
          let less = number-above line rest end found.line rise found.listed in
          omega (arith, less, found.is),
      below,
    )

-- nothing stands twice in two lists that have nothing in common
apart-append : {X : Type 0} (xs ys : List X) → AllApart xs → AllApart ys → ((x : X) → Contains xs x → Contains ys x → ⊥) → AllApart (xs ++ ys)
apart-append [] ys one other none = other
apart-append (x ∷ xs) ys one other none = (
  λ there. elim (Contains-append_cases xs ys x there) [
    | inl before ↦ one.0 before
    | inr behind ↦ none x (listed-first x xs) behind
  ],
  apart-append xs ys one.1 other (λ each here there. none each (listed-after x xs here) there),
)

-- the columns of a field stand once on a line, and what stands on a line has its number
apart-range : (number first many : ℕ) → AllApart (map (column_on number) (range_with_len first many))
apart-range number first zero = tt
apart-range number first (suc many) = (
  λ there.
      let (column, ranged, is) = map-listed (column_on number) (range_with_len (first + 1) many) (column_on number first) there in
      let less = length-range_with_len (first + 1) many in
      let within = ranged.1 in
      let value = get_or-range_with_len (first + 1) many ranged.0 column (omega (arith, less, within)) in
      let its = ranged.2 in
      let same : column ≡ first = ap (λ (p : Position). p.column) is in
      omega (arith, value, its, same),
  apart-range number (first + 1) many,
)

pub positions-line : (number : ℕ) (field : Option Field) (at : Position) → Contains (positions_for number field) at → at.line ≡ number
unfolding positions_for
positions-line number None at there = absurd (listed-none at there)
positions-line number (Some field) at there =
    let (column, ranged, is) = map-listed (column_on number) (range_with_len field.first (columns_of field)) at there in
    sym (ap (λ (p : Position). p.line) is)

-- so each column of a line has one place
pub positions-apart : (used : Line → Option Field) (lines : List Line) (end : ℕ) → NumbersRise lines end
    → AllApart (flat_map (λ (line : Line). positions_for line.number (used line)) lines)
unfolding positions_for
positions-apart used [] end rise = tt
positions-apart used (line ∷ rest) end rise =
    apart-append (positions_for line.number (used line)) (flat_map (λ (each : Line). positions_for each.number (used each)) rest)
    (own (used line)) (positions-apart used rest end (NumbersRise-tail line rest end rise))
    (λ at here there.
    let (other, listed, its) = parts-listed (λ (each : Line). positions_for each.number (used each)) rest at there in
    let one = positions-line line.number (used line) at here in
    let two = positions-line other.number (used other) at its in
    let less = number-above line rest end other rise listed in
    omega (arith, one, two, less))
  where
    own : (field : Option Field) → AllApart (positions_for line.number field)
    own None = tt
    own (Some field) = apart-range line.number field.first (columns_of field)
