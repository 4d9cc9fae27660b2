-- Laws of decks: how a report, its misfits and its places follow the cards.
use Rattle.std.specs.Prelude.{◌≡◌, ◌↔◌, ℕ, ◌+◌, ◌*◌, ◌^◌, ◌≤◌, ◌<◌, List, [], ◌∷◌, ◌++◌, Some, None, length, slice_get, All}
use Rattle.std.specs.List.{Contains}
use Rattle.card_code.specs.MostCards.{most_cards}
use Rattle.page_text.specs.declared.placed_lines.placed_line.PlacedLine.{PlacedLine}
use Rattle.chart_rules.specs.Controls.{controls_of}
use Rattle.chart_lines.specs.ChartsWords.Chart.{Chart}
use Rattle.chart_lines.specs.declared.charts.chart.Line.{Line}
use Rattle.chart_lines.specs.declared.charts.statement.Field.{Field}
use Rattle.report_definition.specs.BodyLines.{text_on, a_card_of}
use Rattle.report_definition.specs.Breaks.{taking}
use Rattle.report_definition.specs.Places.{BodyText, Left, before_all, placed}
use Rattle.report_definition.specs.Report.{body_lines, report_lines}
use Rattle.report_definition.specs.Misfits.{Misfit, misfits, first_of}
use Rattle.report_definition.specs.Totals.{Fits}
use Rattle.report_definition.specs.FollowedDecks.Alike.{AlikeWith}
use Rattle.report_definition.specs.FollowedDecks.CardMisfits.{misfits_by_cards, FirstFit}
use Rattle.report_definition.specs.FollowedDecks.FitBefore.{FitBefore}
use Rattle.report_definition.specs.FollowedDecks.FitSoFar.{FitSoFar, misfits_of_last}
use Rattle.report_definition.specs.FollowedDecks.Left.{left_after}
use Rattle.report_definition.specs.FollowedDecks.Stands.{at_first, bodies_before, stand_before, last_of, report_before}

-- The misfits of a deck are those of its cards.
abbrev pub MisfitsGoByCards : Type 0
MisfitsGoByCards = (lines : List Line) (cards : List (List ℕ)) → misfits lines cards ≡ misfits_by_cards lines cards

-- The first misfit of a deck, if there is one, is after more cards.
abbrev pub MisfitsAreLater : List Line → List (List ℕ) → ℕ → Type 0
MisfitsAreLater lines cards count = (misfit : Misfit) → first_of (misfits lines cards) ≡ Some misfit → count < misfit.card

-- The totals that end with the first so many cards fit exactly where the first misfit, if there is one, is at a later card.
abbrev pub TotalsFitBeforeTheFirstMisfit : Type 0
TotalsFitBeforeTheFirstMisfit =
    (lines : List Line) (cards : List (List ℕ)) (count : ℕ) → FitBefore lines cards count ↔ MisfitsAreLater lines cards count

-- So do the groups that end, card by card, after the first so many.
abbrev pub GroupsFitBeforeTheFirstMisfit : Type 0
GroupsFitBeforeTheFirstMisfit =
    (lines : List Line) (cards : List (List ℕ)) (count : ℕ) → FirstFit lines cards count ↔ MisfitsAreLater lines cards count

-- Body lines in two parts: the second goes on where the first left the form.
abbrev pub PlacesSplit : Type 0
PlacesSplit =
    (lines : List Line) (left : Left) (one other : List BodyText)
    → (placed lines left (one ++ other) ≡ placed lines left one ++ placed lines (left_after lines left one) other)
    × (left_after lines left (one ++ other) ≡ left_after lines (left_after lines left one) other)

-- The lines of a report before those of a card are those of the cards before it, whatever comes later, and the report begins with them.
abbrev pub ReportsBeginByCards : Type 0
ReportsBeginByCards =
    (chart : Chart) (card : List ℕ) (cards later : List (List ℕ))
    → (report_before chart (card ∷ (cards ++ later)) (length cards)
    ≡ placed chart.lines before_all (bodies_before chart.lines at_first card cards))
    × ((rest : List PlacedLine)
    × (report_lines chart (card ∷ (cards ++ later)) ≡ report_before chart (card ∷ (cards ++ later)) (length cards) ++ rest))

-- A deck has at most five body lines for each card, and each body line starts at most one page.
abbrev pub PagesAreFew : Type 0
PagesAreFew =
    (lines : List Line) (cards : List (List ℕ))
    → (length (body_lines lines cards) ≤ 5 * length cards)
    × ((left : Left) (bodies : List BodyText)
    → ((left_after lines left bodies).page ≤ left.page + length bodies)
    × All (λ (line : PlacedLine). line.page ≤ left.page + length bodies) (placed lines left bodies))

-- With at most 999,999 cards no page number reaches 2 to the 32nd.
abbrev pub PagesHaveNumbers : Type 0
PagesHaveNumbers =
    (chart : Chart) (cards : List (List ℕ)) → length cards ≤ most_cards
    → All (λ (line : PlacedLine). line.page < 2 ^ 32) (report_lines chart cards)

-- The cards of each unfinished group are alike with the card that comes next.
abbrev pub GroupsAreAlike : Type 0
GroupsAreAlike =
    (lines : List Line) (card : List ℕ) (cards : List (List ℕ))
    → AlikeWith lines (stand_before lines at_first card cards).so_far (last_of card cards)

-- The text of a control field on a total line of its level or a lower one is that of the group's last card.
abbrev pub TotalTextsAreTheLastCards : Type 0
TotalTextsAreTheLastCards =
    (lines : List Line) (so_far : ℕ → List (List ℕ)) (card : List ℕ) (level above : ℕ) (field : Field)
    → AlikeWith lines so_far card → level ≤ above → above ≤ 3 → Contains (controls_of lines above) field
    → text_on (a_card_of (taking card so_far level)) field ≡ text_on card field

-- Of a first card no group has ended; and where the groups that end with the last card have no misfit, one card more can come.
abbrev pub FitsGoOn : Type 0
FitsGoOn =
    (lines : List Line) (card : List ℕ)
    → FitSoFar lines card []
    × ((cards : List (List ℕ)) (next : List ℕ) → FitSoFar lines card cards → misfits_of_last lines card cards (Some next) ≡ []
    → FitSoFar lines card (cards ++ next ∷ []))

-- Then the totals that end before the last card fit, whatever cards come later.
abbrev pub FitsSoFarAreBefore : Type 0
FitsSoFarAreBefore =
    (lines : List Line) (card : List ℕ) (cards later : List (List ℕ)) → FitSoFar lines card cards
    → FitBefore lines (card ∷ (cards ++ later)) (length cards)

-- Where the groups that end with the last card of a deck have no misfit either, the deck fits.
abbrev pub FitsSoFarEnd : Type 0
FitsSoFarEnd =
    (lines : List Line) (card : List ℕ) (cards : List (List ℕ)) → FitSoFar lines card cards
    → misfits_of_last lines card cards None ≡ [] → Fits lines (card ∷ cards)

-- The first misfit of the groups that end with the last card is the first of the deck, whatever cards come later, and is told of that card.
abbrev pub FirstMisfitsAreTold : Type 0
FirstMisfitsAreTold =
    (lines : List Line) (card : List ℕ) (cards later : List (List ℕ)) (misfit : Misfit) → FitSoFar lines card cards
    → first_of (misfits_of_last lines card cards (slice_get later 0)) ≡ Some misfit
    → (first_of (misfits lines (card ∷ (cards ++ later))) ≡ Some misfit) × (misfit.card ≡ length cards + 1)
