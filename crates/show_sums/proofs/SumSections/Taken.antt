-- The places of some sums.
use Rattle.std.proofs.Common.{◌≡◌, ◌∙◌, sym, ap, ℕ, ◌+◌, ◌<◌, List, [], ◌∷◌, ◌++◌, length, take, get_or}
use Rattle.std.specs.Prelude.{map}
use Rattle.std.proofs.lemmas.List.{map-append, take_more}
use Rattle.show_links.specs.declared.sum_places.places.SumPlace.{SumPlace}
use Rattle.show_sums.specs.SumSections.Sums.{place_of}
use Rattle.show_sums.specs.declared.sum_sections.sums.PageSum.{PageSum}

-- the place of one sum more
pub places_more : (sums : List PageSum) (place : ℕ) (sum : PageSum) (old new : List SumPlace) (at : SumPlace) → place < length sums
    → get_or sums place sum ≡ sum → old ≡ map place_of (take place sums) → at ≡ place_of sum → new ≡ old ++ at ∷ []
    → new ≡ map place_of (take (place + 1) sums)
places_more sums place sum old new at less item before is pushed =
    pushed ∙ ap (λ (p : SumPlace). old ++ p ∷ []) is ∙ ap (λ (l : List SumPlace). l ++ place_of sum ∷ []) before
    ∙ sym (map-append place_of (take place sums) (sum ∷ []))
    ∙ ap (λ (l : List PageSum). map place_of l)
    (sym (take_more sums place sum less ∙ ap (λ (s : PageSum). take place sums ++ s ∷ []) item))
