-- Where a report stands between two cards: what the cards before have left.
use Rattle.std.specs.Prelude.{ℕ, zero, suc, List, [], ◌∷◌, ◌++◌, Option, Some}
use Rattle.page_text.specs.declared.placed_lines.placed_line.PlacedLine.{PlacedLine}
use Rattle.chart_lines.specs.ChartsWords.Chart.{Chart}
use Rattle.chart_lines.specs.declared.charts.chart.Line.{Line}
use Rattle.report_definition.specs.Breaks.{ended_after, no_cards, taking, cleared, chunk_of}
use Rattle.report_definition.specs.Outline.{OutlineLine, Detail, Total, outline_of}
use Rattle.report_definition.specs.Places.{BodyText, Left, before_all, placed}
use Rattle.report_definition.specs.FollowedDecks.Left.{bodies_of, left_after}

-- Where a report stands before a card: the cards of the unfinished group of each level, the highest level whose groups the card
-- opens, and where the line before left the form.
pub record Stand : Type 0 where
  pub so_far : ℕ → List (List ℕ)
  pub opens : ℕ
  pub left : Left

-- before the first card: no cards, groups of all levels to open, and the first page to start
abbrev pub at_first : Stand
at_first = record { so_far = no_cards; opens = 4; left = before_all }

-- the body lines of a card, given the card after it
abbrev pub card_bodies : List Line → Stand → List ℕ → Option (List ℕ) → List BodyText
card_bodies lines stand card next =
    bodies_of lines (chunk_of stand.opens stand.so_far card (ended_after lines card next))

-- where a card, given the card after it, leaves the report
abbrev pub stand_after : List Line → Stand → List ℕ → Option (List ℕ) → Stand
stand_after lines stand card next = record {
  so_far = cleared (ended_after lines card next) (taking card stand.so_far);
  opens = ended_after lines card next;
  left = left_after lines stand.left (card_bodies lines stand card next);
}

-- the body lines before the last of a card and the cards after it
abbrev pub bodies_before : List Line → Stand → List ℕ → List (List ℕ) → List BodyText
bodies_before lines stand card [] = []
bodies_before lines stand card (next ∷ cards) =
    card_bodies lines stand card (Some next) ++ bodies_before lines (stand_after lines stand card (Some next)) next cards

-- where a report stands before the last of a card and the cards after it
abbrev pub stand_before : List Line → Stand → List ℕ → List (List ℕ) → Stand
stand_before lines stand card [] = stand
stand_before lines stand card (next ∷ cards) = stand_before lines (stand_after lines stand card (Some next)) next cards

-- the last of a card and the cards after it
abbrev pub last_of : List ℕ → List (List ℕ) → List ℕ
last_of card [] = card
last_of card (next ∷ cards) = last_of next cards

-- the lines of an outline that stand before those of the card after so many
abbrev pub before_card : ℕ → List OutlineLine → List OutlineLine
before_card count [] = []
before_card count (Total level group ∷ others) = Total level group ∷ before_card count others
before_card zero (Detail opens card ∷ others) = []
before_card (suc count) (Detail opens card ∷ others) = Detail opens card ∷ before_card count others

-- the lines of a report that stand before those of the card after so many
abbrev pub report_before : Chart → List (List ℕ) → ℕ → List PlacedLine
report_before chart cards count =
    placed chart.lines before_all (bodies_of chart.lines (before_card count (outline_of chart.lines cards)))
