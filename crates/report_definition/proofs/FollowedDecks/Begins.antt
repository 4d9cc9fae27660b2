-- The lines of a report before those of a card.
use Rattle.std.proofs.Common.{◌≡◌, ◌∙◌, refl, sym, ap, ℕ, zero, suc, List, [], ◌∷◌, ◌++◌, Some, length}
use Rattle.std.proofs.lemmas.Grind.{flat_map-append}
use Rattle.std.proofs.lemmas.List.{append_assoc}
use Rattle.page_text.specs.declared.placed_lines.placed_line.PlacedLine.{PlacedLine}
use Rattle.chart_lines.specs.ChartsWords.Chart.{Chart}
use Rattle.chart_lines.specs.declared.charts.chart.Line.{Line}
use Rattle.report_definition.specs.Breaks.{ended_after, taking, cleared, totals_to, chunk_of, flat}
use Rattle.report_definition.specs.Outline.{OutlineLine, Detail, Total, outline_of}
use Rattle.report_definition.specs.Places.{before_all, placed}
use Rattle.report_definition.specs.Report.{body_of, report_lines}
use Rattle.report_definition.proofs.OutlineByCards.{deck_by_cards}
use Rattle.report_definition.specs.FollowedDecks.Left.{bodies_of, left_after}
use Rattle.report_definition.specs.FollowedDecks.Laws.{ReportsBeginByCards}
use Rattle.report_definition.specs.FollowedDecks.Stands.{Stand, at_first, card_bodies, stand_after, bodies_before, before_card, report_before}
use Rattle.report_definition.proofs.FollowedDecks.Places.{placed-append}

-- total lines belong to the card before them
before-totals : (count level : ℕ) (groups : ℕ → List (List ℕ)) (others : List OutlineLine)
    → before_card count (totals_to level groups ++ others) ≡ totals_to level groups ++ before_card count others
before-totals count zero groups others = refl
before-totals count (suc level) groups others =
    let total = Total (suc level) (groups (suc level)) in
    ap (before_card count) (append_assoc (totals_to level groups) (total ∷ []) others)
    ∙ before-totals count level groups (total ∷ others)
    ∙ sym (append_assoc (totals_to level groups) (total ∷ []) (before_card count others))

-- nothing stands before the first card
before-first : (lines : List Line) (so_far : ℕ → List (List ℕ)) (opens : ℕ) (card : List ℕ) (cards : List (List ℕ))
    → before_card 0 (flat lines so_far opens card cards) ≡ []
before-first lines so_far opens card [] = refl
before-first lines so_far opens card (next ∷ cards) = refl

-- the lines before the last of a card and the cards after it, whatever comes after
before-flat : (lines : List Line) (stand : Stand) (card : List ℕ) (cards after : List (List ℕ))
    → bodies_of lines (before_card (length cards) (flat lines stand.so_far stand.opens card (cards ++ after)))
    ≡ bodies_before lines stand card cards
before-flat lines stand card [] after =
    ap (bodies_of lines) (before-first lines stand.so_far stand.opens card after)
before-flat lines stand card (next ∷ cards) after =
    let ended = ended_after lines card (Some next) in
    let chunk = chunk_of stand.opens stand.so_far card ended in
    let others = flat lines (cleared ended (taking card stand.so_far)) ended next (cards ++ after) in
    ap (λ l. bodies_of lines (Detail stand.opens card ∷ l))
    (before-totals (length cards) ended (taking card stand.so_far) others)
    ∙ flat_map-append (body_of lines) chunk (before_card (length cards) others)
    ∙ ap (λ l. card_bodies lines stand card (Some next) ++ l)
    (before-flat lines (stand_after lines stand card (Some next)) next cards after)

-- the lines from those of a card on
from_card : ℕ → List OutlineLine → List OutlineLine
from_card count [] = []
from_card count (Total level group ∷ others) = from_card count others
from_card zero (Detail opens card ∷ others) = Detail opens card ∷ others
from_card (suc count) (Detail opens card ∷ others) = from_card count others

-- an outline is the lines before a card and those from it on
outline-cut : (count : ℕ) (outline : List OutlineLine) → outline ≡ before_card count outline ++ from_card count outline
unfolding from_card
outline-cut count [] = refl
outline-cut count (Total level group ∷ others) = ap (λ l. Total level group ∷ l) (outline-cut count others)
outline-cut zero (Detail opens card ∷ others) = refl
outline-cut (suc count) (Detail opens card ∷ others) = ap (λ l. Detail opens card ∷ l) (outline-cut count others)

-- a report begins with its lines before a card
report_begins : (chart : Chart) (cards : List (List ℕ)) (count : ℕ)
    → (rest : List PlacedLine) × (report_lines chart cards ≡ report_before chart cards count ++ rest)
report_begins chart cards count =
    let outline = outline_of chart.lines cards in
    let before = bodies_of chart.lines (before_card count outline) in
    let after = bodies_of chart.lines (from_card count outline) in (
      placed chart.lines (left_after chart.lines before_all before) after,
      ap (placed chart.lines before_all)
          (ap (bodies_of chart.lines) (outline-cut count outline)
          ∙ flat_map-append (body_of chart.lines) (before_card count outline) (from_card count outline))
          ∙ placed-append chart.lines before_all before after,
    )

pub reports_begin : ReportsBeginByCards
reports_begin chart card cards after = (
  ap (placed chart.lines before_all)
      (ap (λ outline. bodies_of chart.lines (before_card (length cards) outline))
      (deck_by_cards chart.lines (card ∷ (cards ++ after)))
      ∙ before-flat chart.lines at_first card cards after),
  report_begins chart (card ∷ (cards ++ after)) (length cards),
)
