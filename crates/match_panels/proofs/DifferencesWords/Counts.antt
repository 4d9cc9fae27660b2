-- How many things there are, counted one part after another.
use Rattle.std.proofs.Common.{◌≡◌, ◌≢◌, ℕ, ◌+◌, ◌⊎◌, inl, inr, List, [], ◌∷◌, ◌++◌, length, refl, sym, subst, arith, suc}
use Rattle.std.specs.List.{All, AllPairs, Contains}
use Rattle.std.proofs.lemmas.List.{length-append}
use Rattle.std.proofs.lemmas.List.Elements.{All-append, All-cons, All-nil, Contains-append_cases, Contains-append_left, Contains-append_right, Contains-push_cases}
use Rattle.std.proofs.lemmas.List.Kept.{AllPairs-cons}
use Rattle.match_panels.specs.DifferencesWords.Differences.{AreMany}

-- what a list contains
contains_none : {X : Type 0} (x : X) → Contains [] x → ⊥
contains_none x has = omega (arith, has.1)

contains_first : {X : Type 0} (x : X) (xs : List X) → Contains (x ∷ xs) x
contains_first x xs = (0, omega arith, refl)

contains_one : {X : Type 0} (x y : X) → Contains (x ∷ []) y → y ≡ x
contains_one x y has = elim (Contains-push_cases [] x y has) [ inl h ↦ absurd (contains_none y h) | inr e ↦ sym e ]

contains_more : {X : Type 0} (x : X) (xs : List X) (y : X) → Contains xs y → Contains (x ∷ xs) y
contains_more x xs y has = Contains-append_right (x ∷ []) xs y has

from_each : {X : Type 0} (P : X → Type 0) (xs : List X) → ((x : X) → Contains xs x → P x) → All P xs
from_each P [] each = All-nil P
from_each P (x ∷ xs) each = All-cons P x xs (each x (contains_first x xs)) (from_each P xs (λ y has. each y (contains_more x xs y has)))

-- two lists with each thing once, and nothing in both
once_both : {X : Type 0} (xs ys : List X) → AllPairs (λ (one other : X). one ≢ other) xs → AllPairs (λ (one other : X). one ≢ other) ys
    → ((x : X) → Contains xs x → Contains ys x → ⊥) → AllPairs (λ (one other : X). one ≢ other) (xs ++ ys)
once_both [] ys one other apart = other
once_both {X} (x ∷ xs) ys one other apart =
    AllPairs-cons (λ (a b : X). a ≢ b) x (xs ++ ys)
    (All-append (λ (b : X). x ≢ b) xs ys (λ k d less. one 0 (suc k) d (omega arith) (omega (arith, less)))
    (from_each (λ (b : X). x ≢ b) ys (λ y has same. apart y (subst (Contains (x ∷ xs)) same (contains_first x xs)) has)))
    (once_both xs ys (λ i j d less within. one (suc i) (suc j) d (omega (arith, less)) (omega (arith, within))) other
    (λ y has also. apart y (contains_more x xs y has) also))

-- none
pub many-none : {X : Type 0} {Is : X → Type 0} → ((x : X) → Is x → ⊥) → AreMany Is 0
many-none none = record {
  things = [];
  all = λ x. (λ is. absurd (none x is), λ has. absurd (contains_none x has));
  once = λ i j d less within. absurd (omega (arith, within));
  counted = refl;
}

-- one
pub many-one : {X : Type 0} {Is : X → Type 0} (x : X) → Is x → ((y : X) → Is y → y ≡ x) → AreMany Is 1
many-one {X} {Is} x is only = record {
  things = x ∷ [];
  all = λ y. (
    λ its. subst (λ (a : X). Contains (x ∷ []) a) (sym (only y its)) (contains_first x []),
    λ has. subst Is (sym (contains_one x y has)) is,
  );
  once = λ i j d less within. absurd (omega (arith, less, within));
  counted = refl;
}

-- those of one part and those of another
pub many-both : {X : Type 0} {R S T : X → Type 0} {m n : ℕ} → ((x : X) → R x → T x) → ((x : X) → S x → T x) → ((x : X) → T x → R x ⊎ S x)
    → ((x : X) → R x → S x → ⊥) → AreMany R m → AreMany S n → AreMany T (m + n)
many-both former latter split apart one other = record {
  things = one.things ++ other.things;
  all = λ x. (
    λ is. elim (split x is) [
      | inl by ↦ Contains-append_left one.things other.things x ((one.all x).0 by)
      | inr by ↦ Contains-append_right one.things other.things x ((other.all x).0 by)
    ],
    λ has. elim (Contains-append_cases one.things other.things x has)
        [ inl by ↦ former x ((one.all x).1 by) | inr by ↦ latter x ((other.all x).1 by) ],
  );
  once = once_both one.things other.things one.once other.once (λ x has also. apart x ((one.all x).1 has) ((other.all x).1 also));
  counted = omega (arith, one.counted, other.counted, length-append one.things other.things);
}

-- the same things in other words
pub many-as : {X : Type 0} {R S : X → Type 0} {m : ℕ} → ((x : X) → R x → S x) → ((x : X) → S x → R x) → AreMany R m → AreMany S m
many-as there back many = record {
  things = many.things;
  all = λ x. (λ is. (many.all x).0 (back x is), λ has. there x ((many.all x).1 has));
  once = many.once;
  counted = many.counted;
}

-- where there are none, nothing is one
pub many-zero : {X : Type 0} {Is : X → Type 0} {m : ℕ} → AreMany Is m → m ≡ 0 → (x : X) → Is x → ⊥
many-zero many zero x is =
    let has = (many.all x).0 is in
    omega (arith, has.1, many.counted, zero)

-- where nothing is one, there are none
pub zero-many : {X : Type 0} {Is : X → Type 0} {m : ℕ} → AreMany Is m → ((x : X) → Is x → ⊥) → m ≡ 0
zero-many {X} {Is} {m} many none = by many.things many.counted (λ x has. none x ((many.all x).1 has))
  where
    by : (things : List X) → m ≡ length things → ((x : X) → Contains things x → ⊥) → m ≡ 0
    by [] counted nothing = counted
    by (x ∷ things) counted nothing = absurd (nothing x (contains_first x things))
