-- Texts that grow piece by piece.
use Rattle.std.proofs.Common.{◌≡◌, ◌∙◌, sym, ap, ℕ, ◌+◌, ◌<◌, List, [], ◌∷◌, ◌++◌, length, take, get_or}
use Rattle.std.proofs.lemmas.List.{flat_map_more, take_more}
use Rattle.std.specs.List.{flat_map}

-- the piece of one thing more
pub piece_more : {X : Type 0} (f : X → List ℕ) (old mid new : List ℕ) (things : List X) (place : ℕ) (thing : X) → place < length things
    → get_or things place thing ≡ thing → mid ≡ old ++ flat_map f (take place things) → new ≡ mid ++ f thing
    → new ≡ old ++ flat_map f (take (place + 1) things)
piece_more {X} f old mid new things place thing less item before one =
    one ∙ ap (λ (l : List ℕ). l ++ f thing) before ∙ flat_map_more f old (take place things) thing
    ∙ ap (λ (l : List X). old ++ flat_map f l)
    (sym (take_more things place thing less ∙ ap (λ (x : X). take place things ++ x ∷ []) item))
