-- Reading a list piece by piece against the pieces that the elements of another list give.
use Rattle.std.proofs.Common.{◌≡◌, ℕ, suc, ◌+◌, ◌==◌, IsTrue, ◌<◌, ◌≤◌, Bool, true, false, cond, List, [], ◌∷◌, ◌++◌, map, length, get_or, take, drop, flat_map, filter, refl, sym, ap, ◌∙◌, arith, add-one, ◌↔◌, ◌≢◌}
use Rattle.std.proofs.Math.Seq.{drop-cons}
use Rattle.std.proofs.lemmas.List.{append_cancel_left, append-nil, take_more}
use Rattle.std.proofs.lemmas.Grind.{common_steps, flat_map-append}
use Rattle.std.proofs.lemmas.Bool.Decides.{nat_tests}

-- what stands from a place on begins with what stands there
pub drop-here : {X : Type 0} (xs : List X) (i : ℕ) (x : X) → i < length xs → x ≡ get_or xs i x → drop i xs ≡ x ∷ drop (i + 1) xs
drop-here xs i x lt at = rw add-one (drop-cons xs i x lt ∙ ap (λ y. y ∷ drop (suc i) xs) (sym at))

-- the pieces from a place on begin with the piece there
pub flat_map-here : {X Y : Type 0} (f : X → List Y) (xs : List X) (i : ℕ) (x : X) → i < length xs → x ≡ get_or xs i x
    → flat_map f (drop i xs) ≡ f x ++ flat_map f (drop (i + 1) xs)
flat_map-here f xs i x lt at = ap (flat_map f) (drop-here xs i x lt at)

-- past the end there are no pieces
pub flat_map-past : {X Y : Type 0} (f : X → List Y) (xs : List X) (i : ℕ) → length xs ≤ i → flat_map f (drop i xs) ≡ []
flat_map-past f xs i past = let none : drop i xs ≡ [] = grind (arith, common_steps) in ap (flat_map f) none

-- what passes a test, put through a function, is the pieces of one element each
pub map-filter : {X Y : Type 0} (p : X → Bool) (f : X → Y) (xs : List X) → map f (filter p xs) ≡ flat_map (λ x. cond (p x) (f x ∷ []) []) xs
map-filter p f [] = refl
map-filter {X} {Y} p f (x ∷ xs) = by (p x) (map-filter p f xs)
  where
    by : (b : Bool) → map f (filter p xs) ≡ flat_map (λ y. cond (p y) (f y ∷ []) []) xs
        → map f (cond b (x ∷ filter p xs) (filter p xs)) ≡ cond b (f x ∷ []) [] ++ flat_map (λ y. cond (p y) (f y ∷ []) []) xs
    by true others = ap (λ ys. f x ∷ ys) others
    by false others = others

-- A list is all pieces exactly where what is left of it is the pieces from a place on.
pub record IsReadTo {X Y : Type 0} (f : X → List Y) (xs : List X) (list rest : List Y) (i : ℕ) : Type 0 where
  pub there : list ≡ flat_map f xs → rest ≡ flat_map f (drop i xs)
  pub back : rest ≡ flat_map f (drop i xs) → list ≡ flat_map f xs

module _ {X Y : Type 0} (f : X → List Y) (xs : List X) (list : List Y) where
  module _ (rest : List Y) (i : ℕ) (x : X) (lt : i < length xs) (at : x ≡ get_or xs i x) (read : IsReadTo f xs list rest i) where
    -- an element without a piece
    pub IsReadTo-nothing : f x ≡ [] → IsReadTo f xs list rest (i + 1)
    IsReadTo-nothing none =
        let here : flat_map f (drop i xs) ≡ flat_map f (drop (i + 1) xs) = flat_map-here f xs i x lt at ∙ ap (λ ys. ys ++ flat_map f (drop (i + 1) xs)) none in
        record { there = λ e. read.there e ∙ here; back = λ e. read.back (e ∙ sym here) }

    -- an element whose piece is the next of the list
    pub IsReadTo-front : (after : List Y) → rest ≡ f x ++ after → IsReadTo f xs list after (i + 1)
    IsReadTo-front after front =
        let here = flat_map-here f xs i x lt at in
        record {
          there = λ e. append_cancel_left (f x) after (flat_map f (drop (i + 1) xs)) (sym front ∙ read.there e ∙ here);
          back = λ e. read.back (front ∙ ap (λ ys. f x ++ ys) e ∙ sym here);
        }

    -- an element whose piece is not the next of the list
    pub IsReadTo-fails : ((after : List Y) → rest ≢ f x ++ after) → list ≢ flat_map f xs
    IsReadTo-fails differs e = differs (flat_map f (drop (i + 1) xs)) (read.there e ∙ flat_map-here f xs i x lt at)

  -- past the last element nothing may be left
  pub IsReadTo-end : (rest : List Y) (i : ℕ) → length xs ≤ i → IsReadTo f xs list rest i → (list ≡ flat_map f xs) ↔ (rest ≡ [])
  IsReadTo-end rest i past read =
      let none = flat_map-past f xs i past in
      ((λ e. read.there e ∙ none), (λ e. read.back (e ∙ sym none)))

-- one and more is not none
suc-zero : (n : ℕ) → (suc n == 0) ≡ false
suc-zero n = grind (arith, nat_tests)

-- the answer of a test whether nothing is left
pub IsTrue-ended : {Y : Type 0} (rest : List Y) (P : Type 0) (answer : Bool) → answer ≡ (length rest == 0) → P ↔ (rest ≡ []) → IsTrue answer ↔ P
IsTrue-ended [] P answer e same = ((λ yes. same.1 refl), (λ p. e))
IsTrue-ended (y ∷ rest) P answer e same = ((λ yes. absurd (let no : true ≡ false = sym yes ∙ e ∙ suc-zero (length rest) in cc)), (λ p. absurd (let none : y ∷ rest ≡ [] = same.0 p in cc)))

-- the answer where a list differs
pub IsTrue-differs : (P : Type 0) → (P → ⊥) → IsTrue false ↔ P
IsTrue-differs P differs = ((λ yes. absurd (let no : false ≡ true = yes in cc)), (λ p. absurd (differs p)))

-- past the last element, where each element that passes a test has a piece of one
pub IsReadTo-end_filter : {X Y : Type 0} (p : X → Bool) (f : X → Y) (xs : List X) (list rest : List Y) (i : ℕ) → length xs ≤ i
    → IsReadTo (λ x. cond (p x) (f x ∷ []) []) xs list rest i → (list ≡ map f (filter p xs)) ↔ (rest ≡ [])
IsReadTo-end_filter p f xs list rest i past read =
    let e = IsReadTo-end (λ x. cond (p x) (f x ∷ []) []) xs list rest i past read in
    ((λ same. e.0 (same ∙ map-filter p f xs)), (λ none. e.1 none ∙ sym (map-filter p f xs)))

-- an element that passes the test, and is not the next of the list
pub IsReadTo-fails_filter : {X Y : Type 0} (p : X → Bool) (f : X → Y) (xs : List X) (list rest : List Y) (i : ℕ) (x : X) → i < length xs
    → x ≡ get_or xs i x → IsReadTo (λ x. cond (p x) (f x ∷ []) []) xs list rest i → p x ≡ true
    → ((after : List Y) → rest ≢ f x ∷ after) → list ≢ map f (filter p xs)
IsReadTo-fails_filter p f xs list rest i x lt at read passes differs same =
    IsReadTo-fails (λ x. cond (p x) (f x ∷ []) []) xs list rest i x lt at read
    (λ after e. differs after (e ∙ ap (λ b. cond b (f x ∷ []) [] ++ after) passes)) (same ∙ map-filter p f xs)

-- the pieces up to one more element
pub flat_map-more : {X Y : Type 0} (f : X → List Y) (xs : List X) (i : ℕ) (x : X) → i < length xs → x ≡ get_or xs i x
    → flat_map f (take (i + 1) xs) ≡ flat_map f (take i xs) ++ f x
flat_map-more f xs i x lt at =
    ap (flat_map f) (take_more xs i x lt ∙ ap (λ y. take i xs ++ y ∷ []) (sym at)) ∙ flat_map-append f (take i xs) (x ∷ [])
    ∙ ap (λ ys. flat_map f (take i xs) ++ ys) (append-nil (f x))

module _ {X Y : Type 0} (f : X → List Y) (whole xs : List X) (same : xs ≡ whole) (list : List Y) (i : ℕ) (x : X) (lt : i < length xs) (at : x ≡ get_or xs i x) (made : list ≡ flat_map f (take i whole)) where
  -- a list of pieces and one piece more
  pub pieces-more : (new : List Y) → new ≡ list ++ f x → new ≡ flat_map f (take (i + 1) whole)
  pieces-more new pushed =
      pushed ∙ ap (λ ys. ys ++ f x) (made ∙ ap (λ zs. flat_map f (take i zs)) (sym same)) ∙ sym (flat_map-more f xs i x lt at)
      ∙ ap (λ zs. flat_map f (take (i + 1) zs)) same

  -- a list of pieces, and an element without one
  pub pieces-same : f x ≡ [] → list ≡ flat_map f (take (i + 1) whole)
  pieces-same none = pieces-more list (sym (append-nil list) ∙ ap (λ ys. list ++ ys) (sym none))
