-- Laws of folded texts.
use Rattle.std.specs.Prelude.{◌≡◌, ℕ, List, IsSome, map}
use Rattle.card_code.specs.CardCode.{rows_of}
use Rattle.card_code.specs.Lines.{lines_of}
use Rattle.cli_decks.specs.FoldingWords.Punchable.{ArePunchable}
use Rattle.cli_decks.specs.FoldingWords.Folded.{folded_line, folded_text}

-- All that stands in a folded line can be punched.
abbrev pub FoldedLinesArePunchable : Type 0
FoldedLinesArePunchable = (fill : ℕ) (line : List ℕ) → IsSome (rows_of fill) → ArePunchable (folded_line fill line)

-- No line is lost: the lines of a folded text are the lines, each folded, in their order.
abbrev pub FoldedTextsKeepLines : Type 0
FoldedTextsKeepLines =
    (fill : ℕ) (lines : List (List ℕ)) → IsSome (rows_of fill) → lines_of (folded_text fill lines) ≡ map (folded_line fill) lines
