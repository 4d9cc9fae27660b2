-- Lists whose elements stand in order, and what they contain.
use Rattle.std.proofs.Common.{◌≡◌, inl, inr, ℕ, ◌+◌, ◌<◌, ◌≤◌, List, [], ◌∷◌, length, refl, sym, ap, ◌∙◌, subst, arith}
use Rattle.std.specs.Prelude.{map}
use Rattle.std.specs.List.{All, AllPairs, Contains}
use Rattle.std.proofs.lemmas.List.Elements.{All-contains, All-nil, All-cons}
use Rattle.std.proofs.lemmas.List.Kept.{AllPairs-cons}
use Rattle.hubs.proofs.HubTable.KindLemmas.{first_or_other}
use Rattle.hubs.proofs.SetupsWords.Ordered.{contains_first, contains_more, contains_none, pairs_head, pairs_none, pairs_tail}

-- no two elements stand before one another; so none stands before itself
abbrev pub IsOneWay : {X : Type 0} → (X → X → Type 0) → Type 0
IsOneWay {X} R = (x y : X) → R x y → R y x → ⊥

-- the first elements of two lists in order with the same elements are the same
same_first : {X : Type 0} (R : X → X → Type 0) (x y : X) (xs ys : List X) → IsOneWay R
    → AllPairs R (x ∷ xs) → AllPairs R (y ∷ ys)
    → Contains (y ∷ ys) x → Contains (x ∷ xs) y → x ≡ y
same_first R x y xs ys one_way ordered also x_there y_there =
    elim (first_or_other y ys x x_there) [
      | inl e ↦ e
      | inr later ↦ elim (first_or_other x xs y y_there) [
        | inl e ↦ sym e
        | inr after ↦ absurd (one_way x y (All-contains (R x) xs y (pairs_head R x xs ordered) after)
            (All-contains (R y) ys x (pairs_head R y ys also) later))
      ]
    ]

-- an element after the first is after it in the other list too
same_rest : {X : Type 0} (R : X → X → Type 0) (x y a : X) (xs ys : List X) → IsOneWay R → AllPairs R (x ∷ xs)
    → x ≡ y → Contains xs a → Contains (y ∷ ys) a → Contains ys a
same_rest R x y a xs ys one_way ordered e after there =
    elim (first_or_other y ys a there) [
      | inl first ↦
          let before : R x a = All-contains (R x) xs a (pairs_head R x xs ordered) after in
          let is_x : a ≡ x = first ∙ sym e in
          let twice : R x x = subst (λ z. R x z) is_x before in
          absurd (one_way x x twice twice)
      | inr h ↦ h
    ]

-- Two lists in order with the same elements are the same.
pub same_list : {X : Type 0} (R : X → X → Type 0) (xs ys : List X) → IsOneWay R → AllPairs R xs → AllPairs R ys
    → ((a : X) → Contains xs a → Contains ys a) → ((a : X) → Contains ys a → Contains xs a) → xs ≡ ys
same_list R [] [] one_way one other there back = refl
same_list R [] (y ∷ ys) one_way one other there back = absurd (contains_none y (back y (contains_first y ys)))
same_list R (x ∷ xs) [] one_way one other there back = absurd (contains_none x (there x (contains_first x xs)))
same_list R (x ∷ xs) (y ∷ ys) one_way one other there back =
    let e : x ≡ y = same_first R x y xs ys one_way one other (there x (contains_first x xs)) (back y (contains_first y ys)) in
    let rest : xs ≡ ys = same_list R xs ys one_way (pairs_tail R x xs one) (pairs_tail R y ys other)
    (λ a has. same_rest R x y a xs ys one_way one e has (there a (contains_more x xs a has)))
    (λ a has. same_rest R y x a ys xs one_way other (sym e) has (back a (contains_more y ys a has))) in
    ap (λ z. z ∷ xs) e ∙ ap (λ (l : List _). y ∷ l) rest

-- lists that are mapped
pub contains_mapped : {A B : Type 0} (f : A → B) (xs : List A) (x : A) → Contains xs x → Contains (map f xs) (f x)
contains_mapped f [] x has = absurd (contains_none x has)
contains_mapped {A} {B} f (y ∷ xs) x has =
    elim (first_or_other y xs x has) [
      | inl e ↦ subst (λ (z : A). Contains (f y ∷ map f xs) (f z)) (sym e) (contains_first (f y) (map f xs))
      | inr h ↦ contains_more (f y) (map f xs) (f x) (contains_mapped f xs x h)
    ]

pub contains_unmapped : {A B : Type 0} (f : A → B) (xs : List A) (y : B) → Contains (map f xs) y
    → (x : A) × Contains xs x × (y ≡ f x)
contains_unmapped f [] y has = absurd (contains_none y has)
contains_unmapped f (x ∷ xs) y has =
    elim (first_or_other (f x) (map f xs) y has) [
      | inl e ↦ (x, contains_first x xs, e)
      | inr h ↦
          let found = contains_unmapped f xs y h in
          (found.0, contains_more x xs found.0 found.1, found.2)
    ]

pub all_mapped : {A B : Type 0} (P : B → Type 0) (f : A → B) (xs : List A) → ((x : A) → Contains xs x → P (f x))
    → All P (map f xs)
all_mapped P f [] each = All-nil P
all_mapped P f (x ∷ xs) each =
    All-cons P (f x) (map f xs) (each x (contains_first x xs))
    (all_mapped P f xs (λ y has. each y (contains_more x xs y has)))

pub pairs_mapped : {A B : Type 0} (R : A → A → Type 0) (S : B → B → Type 0) (f : A → B) (xs : List A)
    → ((x y : A) → R x y → S (f x) (f y)) → AllPairs R xs → AllPairs S (map f xs)
pairs_mapped R S f [] each ordered = pairs_none S
pairs_mapped R S f (x ∷ xs) each ordered =
    AllPairs-cons S (f x) (map f xs)
    (all_mapped (S (f x)) f xs (λ y has. each x y (All-contains (R x) xs y (pairs_head R x xs ordered) has)))
    (pairs_mapped R S f xs each (pairs_tail R x xs ordered))

-- There are at most as many things in order as there are keys for them.
count_by_key : {A : Type 0} (R : A → A → Type 0) (key : A → ℕ) (from to : ℕ) (xs : List A) → from ≤ to
    → ((x : A) → Contains xs x → from ≤ key x) → ((x : A) → Contains xs x → key x < to)
    → ((x y : A) → Contains xs x → Contains xs y → R x y → key x < key y)
    → AllPairs R xs → from + length xs ≤ to
count_by_key R key from to [] some above below rising ordered = omega arith
count_by_key R key from to (x ∷ xs) some above below rising ordered =
    let here : from ≤ key x = above x (contains_first x xs) in
    let under : key x < to = below x (contains_first x xs) in
    let rest : (key x + 1) + length xs ≤ to =
    count_by_key R key (key x + 1) to xs (omega arith)
    (λ y has.
    let before : R x y = All-contains (R x) xs y (pairs_head R x xs ordered) has in
    let more : key x < key y = rising x y (contains_first x xs) (contains_more x xs y has) before in
    omega arith)
    (λ y has. below y (contains_more x xs y has))
    (λ y z has also. rising y z (contains_more x xs y has) (contains_more x xs z also))
    (pairs_tail R x xs ordered) in
    omega arith

pub few_by_key : {A : Type 0} (R : A → A → Type 0) (key : A → ℕ) (to : ℕ) (xs : List A)
    → ((x : A) → Contains xs x → key x < to)
    → ((x y : A) → Contains xs x → Contains xs y → R x y → key x < key y)
    → AllPairs R xs → length xs ≤ to
few_by_key R key to xs below rising ordered =
    let all : 0 + length xs ≤ to =
    count_by_key R key 0 to xs (omega arith) (λ x has. omega arith) below rising ordered in
    omega arith
