-- Lists that are made of another one: what they have, and from which element what stands at a place comes.
use Rattle.std.proofs.Common.{◌≡◌, ◌∙◌, refl, sym, ap, ℕ, zero, suc, ◌+◌, ◌<◌, inl, inr, subst, Bool, true, false, cond, List, [], ◌∷◌, ◌++◌, Contains, Option, Some, None, is_some, length, map, filter, filter_map, flat_map, slice_get, arith}
use Rattle.std.specs.List.{cons_option, range_with_len}
use Rattle.std.proofs.lemmas.List.{length-append}
use Rattle.std.proofs.lemmas.List.FromFn.{get_or-range_with_len, length-range_with_len}
use Rattle.std.proofs.lemmas.Option.{get_or_from_slice_get, slice_get-get_or, slice_get_within}
use Rattle.std.proofs.lemmas.List.Elements.{Contains-append_cases}
use Rattle.chart_lines.proofs.ChartsWords.Listed.{listed-after, listed-at, listed-cases, listed-first, listed-none}

-- what a place of a list of what some elements give has
pub record GivenAt {X Y Z : Type 0} (f : X → Option Y) (xs : List X) (others : List Z) (g : X → Z) (place : ℕ) (y : Y) : Type 0 where
  pub x : X
  pub listed : Contains xs x
  pub gives : f x ≡ Some y
  pub beside : slice_get others place ≡ Some (g x)

module _ {X Y Z : Type 0} (f : X → Option Y) (test : X → Bool) (g : X → Z) (tested : (x : X) → test x ≡ is_some (f x)) where
  pub given-at : (xs : List X) (place : ℕ) (y : Y) → slice_get (filter_map f xs) place ≡ Some y
      → GivenAt f xs (map g (filter test xs)) g place y
  given-at [] place y at = cc
  given-at (x ∷ xs) place y at = by (f x) refl (tested x) (λ k it. given-at xs k y it) place at
    where
      further : (at : ℕ) {k : ℕ} {others : List Z} → GivenAt f xs (map g (filter test xs)) g k y
          → slice_get others at ≡ slice_get (map g (filter test xs)) k → GivenAt f (x ∷ xs) others g at y
      further at d same = record { x = d.x; listed = listed-after x xs d.listed; gives = d.gives; beside = same ∙ d.beside }

      by : (o : Option Y) → f x ≡ o → test x ≡ is_some (f x)
          → ((k : ℕ) → slice_get (filter_map f xs) k ≡ Some y → GivenAt f xs (map g (filter test xs)) g k y)
          → (k : ℕ) → slice_get (cons_option (f x) (filter_map f xs)) k ≡ Some y
          → GivenAt f (x ∷ xs) (map g (cond (test x) (x ∷ filter test xs) (filter test xs))) g k y
      by None is same later k there =
          let passed : slice_get (filter_map f xs) k ≡ Some y
          = ap (λ o. slice_get (cons_option o (filter_map f xs)) k) (sym is) ∙ there in
          let skips : test x ≡ false = same ∙ ap is_some is in
          further k (later k passed) (ap (λ b. slice_get (map g (cond b (x ∷ filter test xs) (filter test xs))) k) skips)
      by (Some z) is same later zero there =
          let own : z ≡ y = cc in
          let takes : test x ≡ true = same ∙ ap is_some is in
          record {
            x = x;
            listed = listed-first x xs;
            gives = is ∙ ap Some own;
            beside = ap (λ b. slice_get (map g (cond b (x ∷ filter test xs) (filter test xs))) 0) takes;
          }
      by (Some z) is same later (suc k) there =
          let passed : slice_get (filter_map f xs) k ≡ Some y
          = ap (λ o. slice_get (cons_option o (filter_map f xs)) (suc k)) (sym is) ∙ there in
          let takes : test x ≡ true = same ∙ ap is_some is in
          further (suc k) (later k passed) (ap (λ b. slice_get (map g (cond b (x ∷ filter test xs) (filter test xs))) (suc k)) takes)

  pub given-many : (xs : List X) → length (map g (filter test xs)) ≡ length (filter_map f xs)
  given-many [] = refl
  given-many (x ∷ xs) = by (f x) refl (tested x) (given-many xs)
    where
      by : (o : Option Y) → f x ≡ o → test x ≡ is_some (f x) → length (map g (filter test xs)) ≡ length (filter_map f xs)
          → length (map g (cond (test x) (x ∷ filter test xs) (filter test xs))) ≡ length (cons_option (f x) (filter_map f xs))
      by None is same later =
          ap (λ b. length (map g (cond b (x ∷ filter test xs) (filter test xs)))) (same ∙ ap is_some is) ∙ later
          ∙ sym (ap (λ o. length (cons_option o (filter_map f xs))) is)
      by (Some z) is same later =
          ap (λ b. length (map g (cond b (x ∷ filter test xs) (filter test xs)))) (same ∙ ap is_some is) ∙ ap suc later
          ∙ sym (ap (λ o. length (cons_option o (filter_map f xs))) is)

-- where a place of a list of parts stands: in the part of one element, and so does the same place of another such list
pub record PartAt {X Y Z : Type 0} (f : X → List Y) (g : X → List Z) (xs : List X) (others : List Z) (place : ℕ) (y : Y) : Type 0 where
  pub x : X
  pub listed : Contains xs x
  pub j : ℕ
  pub at : slice_get (f x) j ≡ Some y
  pub beside : slice_get others place ≡ slice_get (g x) j

module _ {Y Z : Type 0} where
  -- in the first of two parts, or in what follows
  data Within (front : List Y) (other : List Z) (rest : List Y) (others : List Z) (place : ℕ) (y : Y) : Type 0 where
    in_first : (j : ℕ) → slice_get front j ≡ Some y → slice_get (other ++ others) place ≡ slice_get other j → Within front other rest others place y
    in_rest : (k : ℕ) → slice_get rest k ≡ Some y → slice_get (other ++ others) place ≡ slice_get others k → Within front other rest others place y

  within : (front : List Y) (other : List Z) (rest : List Y) (others : List Z) (place : ℕ) (y : Y) → length front ≡ length other
      → slice_get (front ++ rest) place ≡ Some y → Within front other rest others place y
  within [] [] rest others place y same at = in_rest place at refl
  within [] (b ∷ bs) rest others place y same at = cc
  within (a ∷ more) [] rest others place y same at = cc
  within (a ∷ more) (b ∷ bs) rest others zero y same at = in_first 0 at refl
  within (a ∷ more) (b ∷ bs) rest others (suc k) y same at =
      by (within more bs rest others k y (omega (arith, same)) at)
    where
      by : Within more bs rest others k y → Within (a ∷ more) (b ∷ bs) rest others (suc k) y
      by (in_first j here beside) = in_first (suc j) here beside
      by (in_rest n there beside) = in_rest n there beside

module _ {X Y Z : Type 0} (f : X → List Y) (g : X → List Z) (same : (x : X) → length (f x) ≡ length (g x)) where
  pub part-at : (xs : List X) (place : ℕ) (y : Y) → slice_get (flat_map f xs) place ≡ Some y → PartAt f g xs (flat_map g xs) place y
  part-at [] place y at = cc
  part-at (x ∷ xs) place y at =
      by (λ k there. part-at xs k y there) (within (f x) (g x) (flat_map f xs) (flat_map g xs) place y (same x) at)
    where
      by : ((k : ℕ) → slice_get (flat_map f xs) k ≡ Some y → PartAt f g xs (flat_map g xs) k y)
          → Within (f x) (g x) (flat_map f xs) (flat_map g xs) place y → PartAt f g (x ∷ xs) (flat_map g (x ∷ xs)) place y
      by below (in_first j here beside) = record { x = x; listed = listed-first x xs; j = j; at = here; beside = beside }
      by below (in_rest k there beside) =
          let d = below k there in
          record { x = d.x; listed = listed-after x xs d.listed; j = d.j; at = d.at; beside = beside ∙ d.beside }

  pub parts-many : (xs : List X) → length (flat_map g xs) ≡ length (flat_map f xs)
  parts-many [] = refl
  parts-many (x ∷ xs) =
      let here = same x in
      let later = parts-many xs in
      omega (arith, length-append (g x) (flat_map g xs), length-append (f x) (flat_map f xs), here, later)

-- the places of a row of numbers
pub range-at : (first many place number : ℕ) → slice_get (range_with_len first many) place ≡ Some number
    → (place < many) × (number ≡ first + place)
range-at first many place number at =
    let less = slice_get_within (range_with_len first many) place number at in
    let few : place < many = omega (arith, less, length-range_with_len first many) in
    (few, sym (get_or_from_slice_get (range_with_len first many) place number 0 at) ∙ get_or-range_with_len first many place 0 few)

pub range-get : (first many place : ℕ) → place < many → slice_get (range_with_len first many) place ≡ Some (first + place)
range-get first many place less =
    slice_get-get_or (range_with_len first many) place 0 (omega (arith, less, length-range_with_len first many))
    ∙ ap Some (get_or-range_with_len first many place 0 less)

-- what a list of images, of those that pass or of parts has
pub map-listed : {X Y : Type 0} (f : X → Y) (xs : List X) (y : Y) → Contains (map f xs) y → (x : X) × Contains xs x × (f x ≡ y)
map-listed f [] y there = absurd (listed-none y there)
map-listed f (x ∷ xs) y there = elim (listed-cases y (f x) (map f xs) there) [
  | inl same ↦ (x, listed-first x xs, same)
  | inr later ↦ let found = map-listed f xs y later in (found.0, listed-after x xs found.1, found.2)
]

pub filter-listed : {X : Type 0} (test : X → Bool) (xs : List X) (x : X) → Contains (filter test xs) x → Contains xs x × (test x ≡ true)
filter-listed test [] x there = absurd (listed-none x there)
filter-listed {X} test (y ∷ ys) x there = by (filter-listed test ys x) (test y) refl there
  where
    by : (Contains (filter test ys) x → Contains ys x × (test x ≡ true)) → (b : Bool) → test y ≡ b
        → Contains (cond b (y ∷ filter test ys) (filter test ys)) x → Contains (y ∷ ys) x × (test x ≡ true)
    by below false fails there = let rest = below there in (listed-after y ys rest.0, rest.1)
    by below true passes there = elim (listed-cases x y (filter test ys) there) [
      | inl same ↦ (subst (Contains (y ∷ ys)) same (listed-first y ys), ap test (sym same) ∙ passes)
      | inr later ↦ let rest = below later in (listed-after y ys rest.0, rest.1)
    ]

pub parts-listed : {X Y : Type 0} (parts : X → List Y) (xs : List X) (y : Y) → Contains (flat_map parts xs) y
    → (x : X) × Contains xs x × Contains (parts x) y
parts-listed parts [] y there = absurd (listed-none y there)
parts-listed parts (x ∷ xs) y there = elim (Contains-append_cases (parts x) (flat_map parts xs) y there) [
  | inl here ↦ (x, listed-first x xs, here)
  | inr later ↦ let found = parts-listed parts xs y later in (found.0, listed-after x xs found.1, found.2)
]

-- what stands at a place of a list of images
pub get-map : {X Y : Type 0} (f : X → Y) (xs : List X) (place : ℕ) (x : X) → slice_get xs place ≡ Some x → slice_get (map f xs) place ≡ Some (f x)
get-map f [] place x at = absurd (listed-none x (listed-at [] place x at))
get-map f (y ∷ ys) zero x at = let same : y ≡ x = cc in ap (λ z. Some (f z)) same
get-map f (y ∷ ys) (suc k) x at = get-map f ys k x at

pub map-get : {X Y : Type 0} (f : X → Y) (xs : List X) (place : ℕ) (y : Y) → slice_get (map f xs) place ≡ Some y
    → (x : X) × (slice_get xs place ≡ Some x) × (f x ≡ y)
map-get f [] place y at = absurd (listed-none y (listed-at [] place y at))
map-get f (x ∷ xs) zero y at = let same : f x ≡ y = cc in (x, refl, same)
map-get f (x ∷ xs) (suc k) y at = map-get f xs k y at
