-- Helper words of the code: a line that is read byte by byte, of which the front is kept.
use Rattle.std.specs.Prelude.{◌≡◌, ◌≢◌, ◌⊎◌, ℕ, ◌<◌, List, ◌∷◌, Option, Some, IfSome, length, slice_index, take}
use Rattle.std.specs.Io.KnownBytes.{Consumes}
use Rattle.card_code.specs.Lines.{lines_of, without_cr}

-- What is kept, without its CR, is the line; or both are too long for a card.
abbrev pub IsKeptOf : (line kept : List ℕ) → Type 0
IsKeptOf line kept = (without_cr kept ≡ line) ⊎ ((80 < length line) × (80 < length (without_cr kept)))

-- The first line of what was left is read, and its front is kept.
pub record ReadsLine (old new : Option (List ℕ)) (kept : List ℕ) : Type 0 where
  pub line : List ℕ
  pub is_kept : IsKeptOf line kept
  pub cut : IfSome old (λ text. (rest : List ℕ) × (new ≡ Some rest) × (lines_of text ≡ line ∷ lines_of rest))

-- Bytes of a line were read, none of them LF, and the front of them is kept.
pub record HasBegun (old new : Option (List ℕ)) (kept : List ℕ) : Type 0 where
  pub piece : List ℕ
  pub unended : (place : ℕ) → place < length piece → slice_index piece place ≢ 10
  pub consumed : Consumes old new piece
  pub is_kept : kept ≡ take 82 piece
