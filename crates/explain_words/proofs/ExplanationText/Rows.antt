-- What is told of the twelve rows.
use Rattle.std.proofs.Common.{◌≡◌, ◌∙◌, refl, sym, ap, ℕ, ◌+◌, ◌<◌, ◌≤◌, Bool, List, [], ◌∷◌, ◌++◌, length, map, take, get_or, set, flat_map}
use Rattle.std.specs.Prelude.{String}
use Rattle.std.specs.List.{range_with_len}
use Rattle.std.specs.declared.alloc.Global.{Global}
use Rattle.std.proofs.lemmas.List.{map-append, take_all, take_more, take_more_set}
use Rattle.explain_wheels.specs.declared.explanations.explanation.Explanation.{Explanation}
use Rattle.machine.specs.declared.kept.KeptPoint.{KeptPoint}
use Rattle.hubs.specs.SetupsWords.Wiring.{Wiring}
use Rattle.explain_words.specs.ExplanationText.Closing.{row_listed, rows_listed}
use Rattle.explain_words.specs.ExplanationText.ExplanationTexts.{all_lines, lines_at}

pub rows_whole : (received : List Bool) → rows_listed received ≡ flat_map (row_listed received) (range_with_len 0 12)
unfolding rows_listed
rows_whole received = refl

pub lines_whole : (points : List KeptPoint) (asked : List (String Global × Wiring)) (told : Explanation)
    → all_lines points asked told ≡ flat_map (lines_at points asked told) (range_with_len 0 12)
unfolding all_lines
lines_whole points asked told = refl

-- one element more of a list is put at its place of an array
pub put_more : {X : Type 0} (f : X → Bool) (xs : List X) (old : List Bool) (place : ℕ) (d : X) (value : Bool) → place < length xs
    → place < length old → take place old ≡ map f (take place xs) → value ≡ f (get_or xs place d)
    → take (place + 1) (set old place value) ≡ map f (take (place + 1) xs)
put_more {X} f xs old place d value less within before is =
    take_more_set old place value within ∙ ap (λ (l : List Bool). l ++ value ∷ []) before
    ∙ ap (λ (b : Bool). map f (take place xs) ++ b ∷ []) is ∙ sym (map-append f (take place xs) (get_or xs place d ∷ []))
    ∙ ap (map f) (sym (take_more xs place d less))

-- all are put
pub put_all : {X : Type 0} (f : X → Bool) (xs : List X) (old : List Bool) (place : ℕ) → length xs ≤ place → length old ≤ place
    → take place old ≡ map f (take place xs) → old ≡ map f xs
put_all f xs old place all long before =
    sym (take_all place old long) ∙ before ∙ ap (map f) (take_all place xs all)
