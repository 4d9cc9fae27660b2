-- Helper words of the code: where the unfinished groups of a deck begin.
use Rattle.std.specs.Prelude.{◌≡◌, ℕ, ◌+◌, ◌≤◌, ◌==◌, nat_le, List, [], ◌∷◌, ◌++◌, drop, slice_range, if◌then◌else◌}
use Rattle.chart_lines.specs.declared.charts.chart.Line.{Line}
use Rattle.cli_decks.specs.declared.deck_notes.misfit_totals.walk.Starts.{Starts}
use Rattle.cli_decks.specs.DeckNotes.MisfitTotals.Large.{large_from, large_told}

-- where the unfinished group of a level begins
abbrev pub start_of : Starts → ℕ → ℕ
start_of starts level =
    if level == 1 then starts.minor else if level == 2 then starts.intermediate else if level == 3 then starts.major else starts.deck

-- the same once the groups of the levels up to a given one have ended before a place
abbrev pub ended_at : (ended place level start : ℕ) → ℕ
ended_at ended place level start = if nat_le level ended then place else start

-- what is told of the groups that end with some cards, the first of which has a number
abbrev pub rest_told : List Line → (number : ℕ) → (ℕ → List (List ℕ)) → List (List ℕ) → List ℕ
rest_told lines number so_far [] = []
rest_told lines number so_far (card ∷ cards) = large_from lines number so_far card cards

-- How it stands before the card at a place: where the unfinished groups begin, and what was written.
pub record Walks (lines : List Line) (cards : List (List ℕ)) (place : ℕ) (starts : Starts) (old text : List ℕ) : Type 0 where
  pub so_far : ℕ → List (List ℕ)
  pub are : (level : ℕ) → 1 ≤ level → level ≤ 4 → so_far level ≡ slice_range cards (start_of starts level) place
  pub before : (level : ℕ) → 1 ≤ level → level ≤ 4 → start_of starts level ≤ place
  pub goes_on : text ++ rest_told lines (place + 1) so_far (drop place cards) ≡ old ++ large_told lines cards
