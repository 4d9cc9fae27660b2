-- The deck that a text is folded to.
use Rattle.std.specs.Prelude.{ℕ, ◌+◌, ◌-◌, ◌%◌, List, [], ◌∷◌, ◌++◌, Option, Some, None, codes, drop, length}
use Rattle.cli_decks.specs.FoldingWords.Changes.{change_of}
use Rattle.cli_decks.specs.declared.folding.changes.Change.{Change}
use Rattle.cli_decks.specs.declared.folding.changes.Change.TheVariants as change

-- the blanks from a column, counted from 0, to the next stop: one stands at each eighth column
abbrev pub blanks_to_stop : ℕ → List ℕ
blanks_to_stop column = drop (column % 8) (codes "        ")

-- what a byte becomes in a column, by its change
abbrev pub changed_to : (fill column byte : ℕ) → Option Change → List ℕ
changed_to fill column byte None = byte ∷ []
changed_to fill column byte (Some change.Capital) = (byte - 32) ∷ []
changed_to fill column byte (Some change.Blanks) = blanks_to_stop column
changed_to fill column byte (Some change.Replaced) = fill ∷ []

-- a line from a column on
abbrev pub folded_from : (fill column : ℕ) → List ℕ → List ℕ
folded_from fill column [] = []
folded_from fill column (byte ∷ bytes) =
    changed_to fill column byte (change_of byte)
    ++ folded_from fill (column + length (changed_to fill column byte (change_of byte))) bytes

-- A line is folded byte by byte. A byte that is replaced becomes `fill`.
abbrev pub folded_line : (fill : ℕ) → List ℕ → List ℕ
folded_line fill line = folded_from fill 0 line

-- the deck of lines: each is folded, and a line feed ends it
abbrev pub folded_text : (fill : ℕ) → List (List ℕ) → List ℕ
folded_text fill [] = []
folded_text fill (line ∷ lines) = folded_line fill line ++ 10 ∷ folded_text fill lines
