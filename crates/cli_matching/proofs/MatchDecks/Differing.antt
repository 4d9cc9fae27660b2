-- Two lists of printed lines, line by line.
use Rattle.std.proofs.Common.{◌≡◌, ◌≢◌, ◌∙◌, refl, sym, ap, subst, ℕ, ◌+◌, ◌<◌, ◌≤◌, ◌⊎◌, inl, inr, suc, List, [], ◌∷◌, ◌++◌, Some, None, length, take, drop, get_or, slice_get}
use Rattle.std.proofs.lemmas.List.{drop_all, take_all, take_more}
use Rattle.std.proofs.lemmas.Option.{get_or_from_slice_get, slice_get_cases, slice_get_within}
use Rattle.std.proofs.Math.Seq.{drop-cons}
use Rattle.cli_matching.specs.MatchDecks.Differing.{IsFirstDifference, StartApart, lower_place, place_of}
use Rattle.page_text.specs.declared.placed_lines.placed_line.PlacedLine.{PlacedLine}

-- a list ends where nothing stands
pub ends : (ys : List PlacedLine) (i : ℕ) → slice_get ys i ≡ None → length ys ≤ i
ends ys i none = by (slice_get_cases ys i).1
  where
    by : ((y : PlacedLine) × (i < length ys) × (slice_get ys i ≡ Some y) × (get_or ys i y ≡ y)) ⊎ ((length ys ≤ i) × (slice_get ys i ≡ None))
        → length ys ≤ i
    by (inl (y, less, at, is)) = let no = sym none ∙ at in cc
    by (inr (long, at)) = long

cut : (ys : List PlacedLine) (i : ℕ) (y : PlacedLine) → slice_get ys i ≡ Some y → drop i ys ≡ y ∷ drop (suc i) ys
cut ys i y at =
    drop-cons ys i y (slice_get_within ys i y at) ∙ ap (λ z. z ∷ drop (suc i) ys) (get_or_from_slice_get ys i y y at)

module _ (xs ys : List PlacedLine) (i : ℕ) (same : take i xs ≡ take i ys) where
  -- one line more is the same
  pub same-more : (x y : PlacedLine) → slice_get xs i ≡ Some x → slice_get ys i ≡ Some y → x ≡ y → take (i + 1) xs ≡ take (i + 1) ys
  same-more x y at at_too is =
      take_more xs i x (slice_get_within xs i x at)
      ∙ ap (λ t. t ++ get_or xs i x ∷ []) same
      ∙ ap (λ z. take i ys ++ z ∷ []) (get_or_from_slice_get xs i x x at ∙ is ∙ sym (get_or_from_slice_get ys i y x at_too))
      ∙ sym (take_more ys i x (slice_get_within ys i y at_too))

  -- two lines differ
  pub two-apart : (x y : PlacedLine) → slice_get xs i ≡ Some x → slice_get ys i ≡ Some y → x ≢ y → IsFirstDifference xs ys (lower_place x y)
  two-apart x y at at_too differ = record {
    front = i;
    same = same;
    apart = subst (λ a. StartApart a (drop i ys) (lower_place x y)) (sym (cut xs i x at))
        (subst (λ b. StartApart (x ∷ drop (suc i) xs) b (lower_place x y)) (sym (cut ys i y at_too)) (differ, refl));
  }

  -- only one of them has a line there
  pub one-longer : (x : PlacedLine) → slice_get xs i ≡ Some x → slice_get ys i ≡ None → IsFirstDifference xs ys (place_of x)
  one-longer x at none = record {
    front = i;
    same = same;
    apart = subst (λ a. StartApart a (drop i ys) (place_of x)) (sym (cut xs i x at))
        (subst (λ b. StartApart (x ∷ drop (suc i) xs) b (place_of x)) (sym (drop_all i ys (ends ys i none))) refl);
  }

  pub other-longer : (y : PlacedLine) → length xs ≤ i → slice_get ys i ≡ Some y → IsFirstDifference xs ys (place_of y)
  other-longer y long at = record {
    front = i;
    same = same;
    apart = subst (λ a. StartApart a (drop i ys) (place_of y)) (sym (drop_all i xs long))
        (subst (λ b. StartApart [] b (place_of y)) (sym (cut ys i y at)) refl);
  }

  -- neither
  pub none-apart : length xs ≤ i → slice_get ys i ≡ None → xs ≡ ys
  none-apart long none = sym (take_all i xs long) ∙ same ∙ take_all i ys (ends ys i none)
