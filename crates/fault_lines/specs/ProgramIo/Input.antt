-- How a text that has a chart and then its deck is divided: after its first line END. A line is what an LF ends, and one CR at its
-- end is dropped, as in charts and decks; END is what it is in charts.
use Rattle.std.specs.Prelude.{◌≢◌, ℕ, ◌<◌, List, [], ◌∷◌, ◌++◌, length, slice_index}
use Rattle.card_code.specs.Lines.{without_cr}
use Rattle.chart_lines.specs.TokensWords.Frame.{IsEndLine}

-- no byte is LF
abbrev pub HasNoLineFeed : List ℕ → Type 0
HasNoLineFeed bytes = (place : ℕ) → place < length bytes → slice_index bytes place ≢ 10

-- what stands before an LF is a line END
abbrev pub IsEndPiece : List ℕ → Type 0
IsEndPiece piece = IsEndLine (without_cr piece)

-- The text is this chart and this deck: a text without LF is all chart; a first line END ends the chart; any other first line is the
-- chart's, which goes on after it.
pub data IsDivided : List ℕ → List ℕ → List ℕ → Type 0 where
  unended : (text : List ℕ) → HasNoLineFeed text → IsDivided text text []
  end_line : (piece deck : List ℕ) → HasNoLineFeed piece → IsEndPiece piece
      → IsDivided (piece ++ 10 ∷ deck) (piece ++ 10 ∷ []) deck
  other_line : (piece text chart deck : List ℕ) → HasNoLineFeed piece → ¬ IsEndPiece piece → IsDivided text chart deck
      → IsDivided (piece ++ 10 ∷ text) (piece ++ 10 ∷ chart) deck
