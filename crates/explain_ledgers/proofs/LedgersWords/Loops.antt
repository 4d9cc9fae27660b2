-- Loops that go through a list.
use Rattle.std.proofs.Common.{◌≡◌, ◌∙◌, sym, ap, subst, refl, ℕ, zero, suc, ◌+◌, ◌<◌, List, [], ◌∷◌, ◌++◌, length, map, take, drop, set, get_or, arith}
use Rattle.std.proofs.Math.Seq.{take-append_seam}
use Rattle.std.proofs.lemmas.List.{get_or-map, get_or_default, length-map}
use Rattle.std.proofs.lemmas.List.Edits.{map_over_more}
use Rattle.std.specs.List.{All}

module _ {X : Type 0} where
  -- what a loop that writes over a list has not come to
  untouched : (f : X → X) (xs : List X) (i : ℕ) (d : X) → i < length xs → get_or (map f (take i xs) ++ drop i xs) i d ≡ get_or xs i d
  untouched f [] i d less = absurd (omega (arith, less))
  untouched f (x ∷ xs) zero d less = refl
  untouched f (x ∷ xs) (suc i) d less = untouched f xs i d (omega (arith, less))

  pub still : (P : X → Type 0) (f : X → X) (xs ys : List X) (i : ℕ) (d : X) → i < length xs → ys ≡ map f (take i xs) ++ drop i xs
      → All P xs → P (get_or ys i d)
  still P f xs ys i d less is all =
      subst P (sym (ap (λ (l : List X). get_or l i d) is ∙ untouched f xs i d less)) (all i d less)

  -- a loop that writes over plain elements
  pub over-more : (f : X → X) (xs ys : List X) (i : ℕ) (d : X) → i < length xs → length ys ≡ length xs
      → ys ≡ map f (take i xs) ++ drop i xs → set ys i (f (get_or ys i d)) ≡ map f (take (i + 1) xs) ++ drop (i + 1) xs
  over-more f xs ys i d low long is =
      map_over_more f xs ys i (get_or ys i d) low is (get_or_default ys i d (get_or ys i d) (subst (λ (n : ℕ). i < n) (sym long) low))

  -- a list whose slice was written over
  pub written-back : (count : ℕ) (new items : List X) → length new ≡ count → take count (new ++ drop (length new) items) ≡ new
  written-back count new items long =
      ap (λ (n : ℕ). take n (new ++ drop (length new) items)) (sym long) ∙ take-append_seam new (drop (length new) items)

-- what holds of all in a list that is made of another one
pub All-unmap : {X Y : Type 0} (P : Y → Type 0) (f : X → Y) (xs : List X) → All P (map f xs) → All (λ (x : X). P (f x)) xs
All-unmap P f xs all = λ k d low.
    subst P (get_or-map f xs k d (f d) low) (all k (f d) (subst (λ (n : ℕ). k < n) (sym (length-map xs f)) low))
