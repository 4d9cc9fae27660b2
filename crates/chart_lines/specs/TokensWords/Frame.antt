-- The frame of a text format: how large a text may be, which lines are empty, the first or END, the line at a number, and what
-- may stand after END. The lines of a text are numbered from 1, and what the format itself says begins at some line.
use Rattle.std.specs.Prelude.{ℕ, ◌-◌, ◌<◌, ◌≤◌, List, [], ◌∷◌, length, slice_index_or, Any, ◌⊎◌, codes}
use Rattle.chart_lines.specs.TokensWords.Tokens.{HasTokens}

-- more lines than these, or a line of more bytes than these
abbrev pub IsLarger : ℕ → ℕ → List (List ℕ) → Type 0
IsLarger most_lines most_bytes lines = (most_lines < length lines) ⊎ Any (λ line. most_bytes < length line) lines

-- a line without a token: nothing, or spaces alone
abbrev pub IsEmptyLine : List ℕ → Type 0
IsEmptyLine line = HasTokens line []

-- a line whose only token is END
abbrev pub IsEndLine : List ℕ → Type 0
IsEndLine line = HasTokens line (codes "END" ∷ [])

-- a line of a format's name and its version alone
abbrev pub IsTitleLine : List ℕ → List ℕ → List ℕ → Type 0
IsTitleLine name version line = HasTokens line (name ∷ version ∷ [])

-- the line of a number, from 1
abbrev pub line_at : List (List ℕ) → ℕ → List ℕ
line_at lines number = slice_index_or lines (number - 1) []

-- the number is that of a line of the text, and none before the first of what the format says
pub record IsLineFrom (first : ℕ) (lines : List (List ℕ)) (number : ℕ) : Type 0 where
  pub from : first ≤ number
  pub to : number ≤ length lines

-- a line END stands before the line of a number
pub record IsAfterEnd (first : ℕ) (lines : List (List ℕ)) (number : ℕ) : Type 0 where
  pub end : ℕ
  pub there : IsLineFrom first lines end
  pub before : end < number
  pub is_end : IsEndLine (line_at lines end)

-- the line is neither empty nor END, and says nothing of what lines of the format say
pub record IsNoLine {S : Type 0} (Says : List ℕ → S → Type 0) (line : List ℕ) : Type 0 where
  pub not_empty : ¬ IsEmptyLine line
  pub not_end : ¬ IsEndLine line
  pub not_said : (statement : S) → ¬ Says line statement

-- the line of a number is none of the format, or stands after END and isn't empty
pub record IsMisplaced {S : Type 0} (Says : List ℕ → S → Type 0) (first : ℕ) (lines : List (List ℕ)) (number : ℕ) : Type 0 where
  pub there : IsLineFrom first lines number
  pub cause : IsNoLine Says (line_at lines number) ⊎ (IsAfterEnd first lines number × (¬ IsEmptyLine (line_at lines number)))

-- no line from the first on is END
abbrev pub LacksEnd : ℕ → List (List ℕ) → Type 0
LacksEnd first lines = (number : ℕ) → IsLineFrom first lines number → ¬ IsEndLine (line_at lines number)
