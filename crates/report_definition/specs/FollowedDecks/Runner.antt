-- Machines that are fed cards, whatever they are made of. A machine gets the next card, or none after the last one, and places the
-- lines of the card before.
use Rattle.std.specs.Prelude.{◌≡◌, ℕ, ◌+◌, ◌^◌, ◌<◌, List, [], ◌∷◌, ◌++◌, Option, Some, None}
use Rattle.page_text.specs.declared.placed_lines.placed_line.PlacedLine.{PlacedLine}
use Rattle.chart_lines.specs.ChartsWords.Chart.{Chart}
use Rattle.report_definition.specs.Breaks.{ended_after, taking}
use Rattle.report_definition.specs.Places.{placed}
use Rattle.report_definition.specs.FollowedDecks.Alike.{AlikeWith}
use Rattle.report_definition.specs.FollowedDecks.CardMisfits.{GroupsFit}
use Rattle.report_definition.specs.FollowedDecks.Stands.{Stand, at_first, card_bodies, stand_after}

-- A machine for a chart: its state at the start, its feeds (the state before, what is fed, the state after and the lines placed), the
-- cards that it can read, and its states in which a card waits where the report stands so.
pub record Runner (S : Type 0) : Type 1 where
  pub chart : Chart
  pub start : S
  pub Feeds : S → Option (List ℕ) → S → List PlacedLine → Type 0
  pub Reads : List ℕ → Type 0
  pub Follows : Stand → List ℕ → S → Type 0

-- A machine can read what it is fed.
abbrev pub ReadsNext : (List ℕ → Type 0) → Option (List ℕ) → Type 0
ReadsNext Reads None = Unit {0}
ReadsNext Reads (Some card) = Reads card

-- The next card, if there is one, waits where the report stands so.
abbrev pub FollowsNext : {S : Type 0} → (Stand → List ℕ → S → Type 0) → Stand → Option (List ℕ) → S → Type 0
FollowsNext Follows stand None new = Unit {0}
FollowsNext Follows stand (Some card) new = Follows stand card new

-- A machine goes by cards: without cards it places nothing, the first card is taken in, and each feed places the lines of
-- the card that waits and takes in the next one. The cards of its groups are alike, the groups that end after it fit, and the
-- pages are not at their end.
pub record GoesByCards {S : Type 0} (runner : Runner S) : Type 0 where
  pub ends : (new : S) (lines : List PlacedLine) → runner.Feeds runner.start None new lines → lines ≡ []
  pub starts : (card : List ℕ) (new : S) (lines : List PlacedLine) → runner.Reads card
      → runner.Feeds runner.start (Some card) new lines → (lines ≡ []) × runner.Follows at_first card new
  pub goes : (stand : Stand) (card : List ℕ) (next : Option (List ℕ)) (old new : S) (lines : List PlacedLine)
      → runner.Reads card → ReadsNext runner.Reads next → stand.left.page + 5 < 2 ^ 32
      → AlikeWith runner.chart.lines stand.so_far card
      → GroupsFit runner.chart.lines (ended_after runner.chart.lines card next) (taking card stand.so_far)
      → runner.Follows stand card old → runner.Feeds old next new lines
      → (lines ≡ placed runner.chart.lines stand.left (card_bodies runner.chart.lines stand card next))
      × FollowsNext runner.Follows (stand_after runner.chart.lines stand card next) next new

-- the lines of a run from a state on: those of a feed for each card, and of one after the last
abbrev pub Runs : {S : Type 0} → Runner S → S → List (List ℕ) → List PlacedLine → Type 0
Runs {S} runner old [] lines = (new : S) × runner.Feeds old None new lines
Runs {S} runner old (card ∷ cards) lines =
    (new : S)
    × (first others : List PlacedLine)
    × runner.Feeds old (Some card) new first
    × Runs runner new cards others
    × (lines ≡ first ++ others)

-- the state after feeds of cards, and their lines
abbrev pub HasFedCards : {S : Type 0} → Runner S → S → List (List ℕ) → S → List PlacedLine → Type 0
HasFedCards {S} runner old [] new lines = (new ≡ old) × (lines ≡ [])
HasFedCards {S} runner old (card ∷ cards) new lines =
    (mid : S)
    × (first others : List PlacedLine)
    × runner.Feeds old (Some card) mid first
    × HasFedCards runner mid cards new others
    × (lines ≡ first ++ others)
