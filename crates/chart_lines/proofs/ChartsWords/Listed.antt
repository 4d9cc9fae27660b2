-- What stands in a list, element by element.
use Rattle.std.proofs.Common.{◌≡◌, ℕ, zero, suc, ◌+◌, ◌<◌, ◌≤◌, ◌⊎◌, inl, inr, Bool, true, false, cond, List, [], ◌∷◌, ◌++◌, map, length, get_or, slice_get, take, drop, nat_lt, position, Option, Some, None, refl, sym, ap, ap₂, subst, ◌∙◌, arith}
use Rattle.std.specs.List.{Contains, find, filter, filter_map, flat_map, list_any, cons_option, position_or_len, range_with_len}
use Rattle.std.specs.Option.{option_and_then}
use Rattle.std.proofs.Math.Seq.{split_at}
use Rattle.std.proofs.lemmas.Bool.{both_ways}
use Rattle.std.proofs.lemmas.Bool.Decides.{nat_tests}
use Rattle.std.proofs.lemmas.Grind.{common_steps}
use Rattle.std.proofs.lemmas.List.Elements.{Contains-append_left, Contains-append_right}
use Rattle.std.proofs.lemmas.List.Folds.{find_at, list_any_at, Any-from_list_any}
use Rattle.std.proofs.lemmas.List.FromFn.{length-range_with_len, get_or-range_with_len}
use Rattle.std.proofs.lemmas.Option.{slice_get_past, slice_get_within, slice_get-get_or, slice_get_cases, get_or_from_slice_get}

-- the first element
pub listed-first : {X : Type 0} (x : X) (xs : List X) → Contains (x ∷ xs) x
listed-first x xs = (0, omega arith, refl)

-- an element after the first
pub listed-after : {X : Type 0} {x : X} (y : X) (xs : List X) → Contains xs x → Contains (y ∷ xs) x
listed-after y xs there = (suc there.0, omega (arith, there.1), there.2)

-- an element is the first, or after it
pub listed-cases : {X : Type 0} (x y : X) (xs : List X) → Contains (y ∷ xs) x → (y ≡ x) ⊎ Contains xs x
listed-cases {X} x y xs there = by there.0 there.1 there.2
  where
    by : (k : ℕ) → k < length (y ∷ xs) → get_or (y ∷ xs) k x ≡ x → (y ≡ x) ⊎ Contains xs x
    by zero within is = inl is
    by (suc k) within is = inr (k, omega (arith, within), is)

-- no element of the empty list
pub listed-none : {X : Type 0} (x : X) → Contains [] x → ⊥
listed-none x there = omega (arith, there.1)

-- an element stands at a place, and what stands at a place is an element
pub place-of : {X : Type 0} (xs : List X) (x : X) (place : ℕ) → place < length xs → get_or xs place x ≡ x → slice_get xs place ≡ Some x
place-of xs x place within is = slice_get-get_or xs place x within ∙ ap Some is

pub listed-at : {X : Type 0} (xs : List X) (place : ℕ) (x : X) → slice_get xs place ≡ Some x → Contains xs x
listed-at xs place x at = (place, slice_get_within xs place x at, get_or_from_slice_get xs place x x at)

-- where an element stands
pub record Place {X : Type 0} (xs : List X) (x : X) : Type 0 where
  pub earlier : List X
  pub later : List X
  pub parts : xs ≡ earlier ++ x ∷ later

pub listed-place : {X : Type 0} (x : X) (xs : List X) → Contains xs x → Place xs x
listed-place x xs (k, within, is) = record {
  earlier = take k xs;
  later = drop (suc k) xs;
  parts = split_at xs k x within ∙ ap (λ y. take k xs ++ y ∷ drop (suc k) xs) is;
}

-- Two elements of a list are the same, or one stands before the other.
pub data Order {X : Type 0} (xs : List X) (one other : X) : Type 0 where
  is_one : one ≡ other → Order xs one other
  goes_before : (a b c : List X) → xs ≡ (a ++ one ∷ b) ++ other ∷ c → Order xs one other
  goes_after : (a b c : List X) → xs ≡ (a ++ other ∷ b) ++ one ∷ c → Order xs one other

pub listed-order : {X : Type 0} (xs : List X) (one other : X) → Contains xs one → Contains xs other → Order xs one other
listed-order [] one other there there_other = absurd (listed-none one there)
listed-order (x ∷ xs) one other there there_other =
    by (listed-cases one x xs there) (listed-cases other x xs there_other) (listed-order xs one other)
  where
    by : (x ≡ one) ⊎ Contains xs one → (x ≡ other) ⊎ Contains xs other → (Contains xs one → Contains xs other → Order xs one other)
        → Order (x ∷ xs) one other
    by (inl is) (inl is_other) rest = is_one (sym is ∙ is_other)
    by (inl is) (inr later) rest =
        let place = listed-place other xs later in goes_before [] place.earlier place.later (ap₂ (λ y ys. y ∷ ys) is place.parts)
    by (inr later) (inl is) rest =
        let place = listed-place one xs later in goes_after [] place.earlier place.later (ap₂ (λ y ys. y ∷ ys) is place.parts)
    by (inr later) (inr later_other) rest = elim (rest later later_other) [
      | is_one is ↦ is_one is
      | goes_before a b c split ↦ goes_before (x ∷ a) b c (ap (λ ys. x ∷ ys) split)
      | goes_after a b c split ↦ goes_after (x ∷ a) b c (ap (λ ys. x ∷ ys) split)
    ]

-- what is found stands in the list, and passes
pub found-listed : {X : Type 0} (test : X → Bool) (xs : List X) (x : X) → find test xs ≡ Some x
    → Contains xs x × (test x ≡ true)
found-listed test [] x found = cc
found-listed {X} test (y ∷ xs) x found = by (found-listed test xs x) (test y) refl found
  where
    by : (find test xs ≡ Some x → Contains xs x × (test x ≡ true)) → (b : Bool) → test y ≡ b → cond b (Some y) (find test xs) ≡ Some x → Contains (y ∷ xs) x × (test x ≡ true)
    by below true passes is =
        let same : y ≡ x = cc in
        ((0, omega arith, same), ap test (sym same) ∙ passes)
    by below false fails is = let rest = below is in (listed-after y xs rest.0, rest.1)

-- where none is found, no element passes
pub none-found : {X : Type 0} (test : X → Bool) (xs : List X) (x : X) → find test xs ≡ None → Contains xs x → test x ≡ false
none-found test [] x none there = absurd (listed-none x there)
none-found {X} test (y ∷ xs) x none there = by (none-found test xs x) (test y) refl none (listed-cases x y xs there)
  where
    by : (find test xs ≡ None → Contains xs x → test x ≡ false) → (b : Bool) → test y ≡ b
        → cond b (Some y) (find test xs) ≡ None → (y ≡ x) ⊎ Contains xs x → test x ≡ false
    by below true passes is where_is = cc
    by below false fails is (inl same) = ap test (sym same) ∙ fails
    by below false fails is (inr after) = below is after

-- where an element passes, one is found
pub found-passing : {X : Type 0} (test : X → Bool) (xs : List X) (x : X) → Contains xs x → test x ≡ true → (y : X) × (find test xs ≡ Some y)
found-passing {X} test xs x there passes = by (find test xs) refl
  where
    by : (found : Option X) → find test xs ≡ found → (y : X) × (found ≡ Some y)
    by None none = absurd (both_ways (test x) (none-found test xs x none there) passes)
    by (Some y) is = (y, refl)

-- an element that passes tells that some does
pub any-listed : {X : Type 0} (test : X → Bool) (xs : List X) (x : X) → Contains xs x → test x ≡ true → list_any test xs ≡ true
any-listed test xs x (k, within, is) passes = list_any_at test xs k x within (ap test is ∙ passes)

-- where no element passes, none of the list does
pub none-any : {X : Type 0} (test : X → Bool) (xs : List X) (x : X) → list_any test xs ≡ false → Contains xs x → test x ≡ false
none-any test xs x none there = by (test x) refl
  where
    by : (b : Bool) → test x ≡ b → b ≡ false
    by true is = absurd (both_ways (list_any test xs) none (any-listed test xs x there is))
    by false is = refl

-- where some element passes, there is one
pub record Passing {X : Type 0} (test : X → Bool) (xs : List X) : Type 0 where
  pub element : X
  pub listed : Contains xs element
  pub passes : test element ≡ true

pub any-passing : {X : Type 0} (test : X → Bool) (xs : List X) → list_any test xs ≡ true → Passing test xs
any-passing test xs some =
    let (k, x, within, is, passes) = Any-from_list_any test xs some in record { element = x; listed = (k, within, is); passes = passes }

-- the first element that passes is the one at the first place that passes
pub find_at_position : {X : Type 0} (p : X → Bool) (xs : List X) → find p xs ≡ option_and_then (slice_get xs) (position p xs)
find_at_position p xs = find_at p xs ∙ by (nat_lt (position_or_len p xs) (length xs)) refl
  where
    by : (b : Bool) → nat_lt (position_or_len p xs) (length xs) ≡ b
        → slice_get xs (position_or_len p xs) ≡ option_and_then (slice_get xs) (cond b (Some (position_or_len p xs)) None)
    by true h = refl
    by false h = slice_get_past xs (position_or_len p xs) (grind (arith, nat_tests))

-- a first place is one of the list
pub position-within : {X : Type 0} (p : X → Bool) (xs : List X) (i : ℕ) → Some i ≡ position p xs → i < length xs
position-within p xs i h = grind (arith, common_steps)

-- What stands at a place of a list, and passes a test.
pub record StandsAt {X : Type 0} (test : X → Bool) (xs : List X) (place : ℕ) : Type 0 where
  pub element : X
  pub there : slice_get xs place ≡ Some element
  pub passes : test element ≡ true

pub position-stands : {X : Type 0} (test : X → Bool) (xs : List X) (place : ℕ) → position test xs ≡ Some place → StandsAt test xs place
position-stands {X} test xs place is = by (slice_get_cases xs place).1
  where
    by : ((x : X) × (place < length xs) × (slice_get xs place ≡ Some x) × (get_or xs place x ≡ x))
        ⊎ ((length xs ≤ place) × (slice_get xs place ≡ None)) → StandsAt test xs place
    by (inl (x, within, there, at)) = record {
      element = x;
      there = there;
      passes = (found-listed test xs x (find_at_position test xs ∙ ap (option_and_then (slice_get xs)) is ∙ there)).1;
    }
    by (inr (past, none)) = let within = position-within test xs place (sym is) in absurd (omega (arith, within, past))

-- where an element passes, there is a first place that passes
pub position-passing : {X : Type 0} (test : X → Bool) (xs : List X) (x : X) → Contains xs x → test x ≡ true
    → (place : ℕ) × (position test xs ≡ Some place)
position-passing test xs x there passes = by (position test xs) refl (found-passing test xs x there passes)
  where
    by : (o : Option ℕ) → position test xs ≡ o → ((y : _) × (find test xs ≡ Some y)) → (place : ℕ) × (o ≡ Some place)
    by (Some place) is found = (place, refl)
    by None is found = let none = sym (find_at_position test xs ∙ ap (option_and_then (slice_get xs)) is) ∙ found.1 in cc

-- what a list's elements give, each gives
pub record Given {X Y : Type 0} (f : X → Option Y) (xs : List X) (y : Y) : Type 0 where
  pub element : X
  pub listed : Contains xs element
  pub gives : f element ≡ Some y

pub given-by : {X Y : Type 0} (f : X → Option Y) (xs : List X) (y : Y) → Contains (filter_map f xs) y → Given f xs y
given-by f [] y there = absurd (listed-none y there)
given-by {X} {Y} f (x ∷ xs) y there = by (given-by f xs y) (f x) refl there
  where
    after : Given f xs y → Given f (x ∷ xs) y
    after rest = record { element = rest.element; listed = listed-after x xs rest.listed; gives = rest.gives }

    by : (Contains (filter_map f xs) y → Given f xs y) → (found : Option Y) → f x ≡ found
        → Contains (cons_option found (filter_map f xs)) y → Given f (x ∷ xs) y
    by below None e is = after (below is)
    by below (Some z) e is = elim (listed-cases y z (filter_map f xs) is) [
      | inl same ↦ record { element = x; listed = listed-first x xs; gives = e ∙ ap Some same }
      | inr later ↦ after (below later)
    ]

pub listed-given : {X Y : Type 0} (f : X → Option Y) (xs : List X) (x : X) (y : Y) → Contains xs x → f x ≡ Some y
    → Contains (filter_map f xs) y
listed-given f [] x y there gives = absurd (listed-none x there)
listed-given {X} {Y} f (z ∷ xs) x y there gives =
    by (λ after. listed-given f xs x y after gives) (f z) refl (listed-cases x z xs there)
  where
    by : (Contains xs x → Contains (filter_map f xs) y) → (found : Option Y) → f z ≡ found → (z ≡ x) ⊎ Contains xs x → Contains (cons_option found (filter_map f xs)) y
    by below None e (inl same) = let at : f z ≡ Some y = ap f same ∙ gives in cc
    by below (Some w) e (inl same) =
        let at : f z ≡ Some y = ap f same ∙ gives in
        let is : w ≡ y = cc in
        (0, omega arith, is)
    by below None e (inr after) = below after
    by below (Some w) e (inr after) = listed-after w (filter_map f xs) (below after)

-- an element gives one of the list of what the elements give
pub listed-map : {X Y : Type 0} (f : X → Y) (xs : List X) (x : X) → Contains xs x → Contains (map f xs) (f x)
listed-map f [] x there = absurd (listed-none x there)
listed-map f (y ∷ xs) x there = elim (listed-cases x y xs there) [
  | inl same ↦ (0, omega arith, ap f same)
  | inr later ↦ listed-after (f y) (map f xs) (listed-map f xs x later)
]

-- an element that passes is one of those that pass
pub listed-filter : {X : Type 0} (test : X → Bool) (xs : List X) (x : X) → Contains xs x → test x ≡ true → Contains (filter test xs) x
listed-filter test [] x there passes = absurd (listed-none x there)
listed-filter test (y ∷ xs) x there passes =
    by (test y) refl (listed-cases x y xs there) (λ later. listed-filter test xs x later passes)
  where
    by : (b : Bool) → test y ≡ b → (y ≡ x) ⊎ Contains xs x → (Contains xs x → Contains (filter test xs) x)
        → Contains (cond b (y ∷ filter test xs) (filter test xs)) x
    by true is (inl same) below = (0, omega arith, same)
    by false is (inl same) below = absurd (both_ways (test y) is (ap test same ∙ passes))
    by true is (inr later) below = listed-after y (filter test xs) (below later)
    by false is (inr later) below = below later

-- an element of a part is one of the whole
pub listed-parts : {X Y : Type 0} (parts : X → List Y) (xs : List X) (x : X) (y : Y) → Contains xs x → Contains (parts x) y
    → Contains (flat_map parts xs) y
listed-parts parts [] x y there within = absurd (listed-none x there)
listed-parts parts (z ∷ xs) x y there within = elim (listed-cases x z xs there) [
  | inl same ↦ Contains-append_left (parts z) (flat_map parts xs) y (subst (λ w. Contains (parts w) y) (sym same) within)
  | inr later ↦ Contains-append_right (parts z) (flat_map parts xs) y (listed-parts parts xs x y later within)
]

-- a number of a range
pub listed-range : (first many place : ℕ) → place < many → Contains (range_with_len first many) (first + place)
listed-range first many place within =
    (place, omega (arith, within, length-range_with_len first many), get_or-range_with_len first many place (first + place) within)

pub listed-within : (first many number : ℕ) → Contains (range_with_len first many) number → number < first + many
listed-within first many number (k, within, is) =
    let below : k < many = omega (arith, within, length-range_with_len first many) in
    let at = get_or-range_with_len first many k number below in
    omega (arith, below, is, at)
