-- Lists whose elements stand in order, and what they contain.
use Rattle.std.proofs.Common.{◌≡◌, ◌<◌, inl, inr, ℕ, List, [], ◌∷◌, ◌++◌, refl, subst, sym, arith, zero, suc, get_or, length, take}
use Rattle.std.specs.List.{All, AllPairs, Contains}
use Rattle.std.proofs.lemmas.List.Elements.{All-append, Contains-append_right, Contains-push_cases, All-nil, All-cons}
use Rattle.std.proofs.lemmas.List.Kept.{AllPairs-cons}
use Rattle.hubs.proofs.HubTable.KindLemmas.{first_or_other}

-- what the first of a list in order stands before
pub pairs_head : {X : Type 0} (R : X → X → Type 0) (x : X) (xs : List X) → AllPairs R (x ∷ xs) → All (R x) xs
pairs_head R x xs h = λ k d lt. h 0 (suc k) d (omega arith) (omega arith)

-- the rest of a list in order
pub pairs_tail : {X : Type 0} (R : X → X → Type 0) (x : X) (xs : List X) → AllPairs R (x ∷ xs) → AllPairs R xs
pairs_tail R x xs h = λ i j d lt within. h (suc i) (suc j) d (omega arith) (omega arith)

pub pairs_none : {X : Type 0} (R : X → X → Type 0) → AllPairs R []
pairs_none R = λ i j d lt within. absurd (omega arith)

pub pairs_one : {X : Type 0} (R : X → X → Type 0) (x : X) → AllPairs R (x ∷ [])
pairs_one R x = λ i j d lt within. absurd (omega arith)

-- what a list contains
pub contains_none : {X : Type 0} (x : X) → Contains [] x → ⊥
contains_none x has = absurd (omega (arith, has.1))

pub contains_first : {X : Type 0} (x : X) (xs : List X) → Contains (x ∷ xs) x
contains_first x xs = (0, omega arith, refl)

pub contains_one : {X : Type 0} (x y : X) → Contains (x ∷ []) y → y ≡ x
contains_one x y has =
    elim (Contains-push_cases [] x y has) [ inl h ↦ absurd (contains_none y h) | inr e ↦ sym e ]

pub contains_more : {X : Type 0} (x : X) (xs : List X) (y : X) → Contains xs y → Contains (x ∷ xs) y
contains_more x xs y has = Contains-append_right (x ∷ []) xs y has

-- from each element to all of them
pub all_from_each : {X : Type 0} (P : X → Type 0) (xs : List X) → ((x : X) → Contains xs x → P x) → All P xs
all_from_each P [] each = All-nil P
all_from_each P (x ∷ xs) each =
    All-cons P x xs (each x (contains_first x xs)) (all_from_each P xs (λ y has. each y (contains_more x xs y has)))

-- two lists in order, one after the other
pub pairs_append : {X : Type 0} (R : X → X → Type 0) (xs ys : List X) → AllPairs R xs → AllPairs R ys
    → ((x y : X) → Contains xs x → Contains ys y → R x y) → AllPairs R (xs ++ ys)
pairs_append R [] ys one other across = other
pairs_append R (x ∷ xs) ys one other across =
    AllPairs-cons R x (xs ++ ys)
    (All-append (R x) xs ys (pairs_head R x xs one)
    (all_from_each (R x) ys (λ y has. across x y (contains_first x xs) has)))
    (pairs_append R xs ys (pairs_tail R x xs one) other (λ a b has also. across a b (contains_more x xs a has) also))

-- what stands before a place of a list in order
pub pairs_before : {X : Type 0} (R : X → X → Type 0) (xs : List X) (place : ℕ) (d x : X) → AllPairs R xs → place < length xs
    → Contains (take place xs) x → R x (get_or xs place d)
pairs_before R [] place d x ordered within has = absurd (omega (arith, within))
pairs_before R (y ∷ xs) zero d x ordered within has = absurd (contains_none x has)
pairs_before R (y ∷ xs) (suc place) d x ordered within has =
    let less : place < length xs = omega (arith, within) in
    elim (first_or_other y (take place xs) x has) [
      | inl e ↦ subst (λ z. R z (get_or xs place d)) (sym e) (pairs_head R y xs ordered place d less)
      | inr h ↦ pairs_before R xs place d x (pairs_tail R y xs ordered) less h
    ]
