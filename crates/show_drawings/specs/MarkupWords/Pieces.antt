-- Texts that have a piece for each thing of a list. What the pieces are is a relation, or a word by the number of the thing.
use Rattle.std.specs.Prelude.{◌≡◌, ℕ, ◌+◌, List, [], ◌∷◌, ◌++◌}

-- a word for each thing of a list, by its number: the first thing has this one
abbrev pub numbered_words : {A : Type 0} → (ℕ → A → List ℕ) → ℕ → List A → List ℕ
numbered_words word number [] = []
numbered_words word number (thing ∷ others) = word number thing ++ numbered_words word (number + 1) others

-- one text for each thing of a list, one behind the other
pub data EachText {A : Type 0} (Is : A → List ℕ → Type 0) : List A → List ℕ → Type 0 where
  none : EachText Is [] []
  more :
      (things : List A) (thing : A) (before text : List ℕ) → EachText Is things before → Is thing text
      → EachText Is (things ++ thing ∷ []) (before ++ text)

-- a text gains one for each thing of a list
pub record GainsEach {A : Type 0} (Is : A → List ℕ → Type 0) (things : List A) (old new : List ℕ) : Type 0 where
  pub text : List ℕ
  pub each : EachText Is things text
  pub gained : new ≡ old ++ text

-- a text gains one that is so
pub record GainsOne (Is : List ℕ → Type 0) (old new : List ℕ) : Type 0 where
  pub text : List ℕ
  pub is : Is text
  pub gained : new ≡ old ++ text
