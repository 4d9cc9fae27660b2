-- The misfits of a deck, card by card.
use Rattle.std.proofs.Common.{◌≡◌, ◌∙◌, refl, sym, ap, ℕ, zero, suc, ◌+◌, List, [], ◌∷◌, ◌++◌, Some}
use Rattle.std.proofs.lemmas.List.{append_assoc, append-nil}
use Rattle.chart_lines.specs.declared.charts.chart.Line.{Line}
use Rattle.report_definition.specs.Breaks.{ended_after, no_cards, taking, cleared, totals_to, flat}
use Rattle.report_definition.specs.Outline.{OutlineLine, Total}
use Rattle.report_definition.specs.Misfits.{misfits_in, misfits_after}
use Rattle.report_definition.proofs.OutlineByCards.{deck_by_cards}
use Rattle.report_definition.specs.FollowedDecks.CardMisfits.{misfits_to, misfits_from}
use Rattle.report_definition.specs.FollowedDecks.Laws.{MisfitsGoByCards}

-- the misfits of total lines, and of what comes after them
totals-misfits : (lines : List Line) (cards level : ℕ) (groups : ℕ → List (List ℕ)) (others : List OutlineLine)
    → misfits_after lines cards (totals_to level groups ++ others)
    ≡ misfits_to lines cards level groups ++ misfits_after lines cards others
totals-misfits lines cards zero groups others = refl
totals-misfits lines cards (suc level) groups others =
    let total = Total (suc level) (groups (suc level)) in
    ap (misfits_after lines cards) (append_assoc (totals_to level groups) (total ∷ []) others)
    ∙ totals-misfits lines cards level groups (total ∷ others)
    ∙ sym (append_assoc (misfits_to lines cards level groups) (misfits_in lines (suc level) cards (groups (suc level)))
    (misfits_after lines cards others))

-- the misfits of a card and the cards after it
flat-misfits : (lines : List Line) (number : ℕ) (so_far : ℕ → List (List ℕ)) (opens : ℕ) (card : List ℕ) (cards : List (List ℕ))
    → misfits_after lines number (flat lines so_far opens card cards) ≡ misfits_from lines (number + 1) so_far card cards
flat-misfits lines number so_far opens card [] =
    ap (misfits_after lines (number + 1)) (sym (append-nil (totals_to 4 (taking card so_far))))
    ∙ totals-misfits lines (number + 1) 4 (taking card so_far) []
    ∙ append-nil (misfits_to lines (number + 1) 4 (taking card so_far))
flat-misfits lines number so_far opens card (next ∷ cards) =
    let ended = ended_after lines card (Some next) in
    totals-misfits lines (number + 1) ended (taking card so_far)
    (flat lines (cleared ended (taking card so_far)) ended next cards)
    ∙ ap (λ l. misfits_to lines (number + 1) ended (taking card so_far) ++ l)
    (flat-misfits lines (number + 1) (cleared ended (taking card so_far)) ended next cards)

pub misfits_of_cards : MisfitsGoByCards
misfits_of_cards lines [] = refl
misfits_of_cards lines (card ∷ cards) =
    ap (misfits_after lines 0) (deck_by_cards lines (card ∷ cards)) ∙ flat-misfits lines 0 no_cards 4 card cards
