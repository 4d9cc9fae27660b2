-- Decks of which some cards are known.
use Rattle.std.proofs.Common.{◌≡◌, ◌∙◌, refl, sym, ap, ℕ, ◌+◌, List, [], ◌∷◌, ◌++◌, Some, length, length-append, slice_get, append-nil, append_assoc, arith}
use Rattle.chart_lines.specs.declared.charts.chart.Line.{Line}
use Rattle.report_definition.specs.Breaks.{cleared, ended_after, taking}
use Rattle.report_definition.specs.Misfits.{Misfit, first_of, misfits}
use Rattle.report_definition.proofs.Fitting.{fit_without_misfits}
use Rattle.report_definition.specs.FollowedDecks.CardMisfits.{misfits_from}
use Rattle.report_definition.specs.FollowedDecks.FitSoFar.{FitSoFar, groups_before, misfits_of_last}
use Rattle.report_definition.specs.FollowedDecks.Laws.{FitsGoOn, FitsSoFarAreBefore, FitsSoFarEnd, FirstMisfitsAreTold}
use Rattle.report_definition.specs.FollowedDecks.Stands.{Stand, at_first, last_of, stand_before, stand_after}
use Rattle.report_definition.proofs.FollowedDecks.FirstMisfits.{first-least}
use Rattle.report_definition.proofs.FollowedDecks.FitBefore.{fit_before_misfits}
use Rattle.report_definition.proofs.FollowedDecks.Misfits.{misfits_of_cards}
use Rattle.report_definition.proofs.FollowedDecks.Numbered.{first-card}

-- the last card, with one more
pub last-more : (card : List ℕ) (cards : List (List ℕ)) (next : List ℕ) → last_of card (cards ++ next ∷ []) ≡ next
last-more card [] next = refl
last-more card (one ∷ cards) next = last-more one cards next

-- where the report stands before it
pub stand-more : (lines : List Line) (stand : Stand) (card : List ℕ) (cards : List (List ℕ)) (next : List ℕ)
    → stand_before lines stand card (cards ++ next ∷ [])
    ≡ stand_after lines (stand_before lines stand card cards) (last_of card cards) (Some next)
stand-more lines stand card [] next = refl
stand-more lines stand card (one ∷ cards) next = stand-more lines (stand_after lines stand card (Some one)) one cards next

-- and the unfinished groups
pub groups-more : (lines : List Line) (card : List ℕ) (cards : List (List ℕ)) (next : List ℕ)
    → groups_before lines card (cards ++ next ∷ [])
    ≡ cleared (ended_after lines (last_of card cards) (Some next)) (taking (last_of card cards) (groups_before lines card cards))
groups-more lines card cards next = ap (λ (stand : Stand). stand.so_far) (stand-more lines at_first card cards next)

-- the first of two lists
first-of-both : (one other : List Misfit) (misfit : Misfit) → first_of one ≡ Some misfit → first_of (one ++ other) ≡ Some misfit
first-of-both [] other misfit first = absurd cc
first-of-both (some ∷ more) other misfit first = first

pub fits_go_on : FitsGoOn
fits_go_on lines card = (misfits_of_first, more)
  where
    misfits_of_first : FitSoFar lines card []
    misfits_of_first later = misfits_of_cards lines (card ∷ later)

    more : (cards : List (List ℕ)) (next : List ℕ) → FitSoFar lines card cards → misfits_of_last lines card cards (Some next) ≡ []
        → FitSoFar lines card (cards ++ next ∷ [])
    more cards next fit none later =
        let long : length cards + 1 ≡ length (cards ++ next ∷ []) = sym (length-append cards (next ∷ [])) in
        ap (λ l. misfits lines (card ∷ l)) (append_assoc cards (next ∷ []) later)
        ∙ fit (next ∷ later)
        ∙ ap
        (λ l. l ++ misfits_from lines (length cards + 1 + 1)
        (cleared (ended_after lines (last_of card cards) (Some next)) (taking (last_of card cards) (groups_before lines card cards))) next later)
        none
        ∙ ap
        (λ groups. misfits_from lines (length cards + 1 + 1) groups next later)
        (sym (groups-more lines card cards next))
        ∙ ap (λ n. misfits_from lines (n + 1) (groups_before lines card (cards ++ next ∷ [])) next later) long
        ∙ ap (λ last. misfits_from lines (length (cards ++ next ∷ []) + 1) (groups_before lines card (cards ++ next ∷ [])) last later)
        (sym (last-more card cards next))

pub fits_before : FitsSoFarAreBefore
fits_before lines card cards later fit =
    (fit_before_misfits lines (card ∷ (cards ++ later)) (length cards)).1
    (λ misfit first.
    let least = first-least lines (length cards + 1) (groups_before lines card cards) (last_of card cards) later misfit
    (sym (ap first_of (fit later)) ∙ first) in
    omega (arith, least))

pub fits_end : FitsSoFarEnd
fits_end lines card cards fit none =
    (fit_without_misfits lines (card ∷ cards)).1
    (ap (λ l. misfits lines (card ∷ l)) (sym (append-nil cards)) ∙ fit [] ∙ none)

pub first_told : FirstMisfitsAreTold
first_told lines card cards later misfit fit first = (
  ap first_of (fit later) ∙ of later first,
  first-card lines (length cards + 1) (ended_after lines (last_of card cards) (slice_get later 0))
      (taking (last_of card cards) (groups_before lines card cards)) misfit first,
)
  where
    of : (others : List (List ℕ)) → first_of (misfits_of_last lines card cards (slice_get others 0)) ≡ Some misfit
        → first_of (misfits_from lines (length cards + 1) (groups_before lines card cards) (last_of card cards) others) ≡ Some misfit
    of [] tells = tells
    of (next ∷ others) tells = first-of-both (misfits_of_last lines card cards (Some next)) _ misfit tells
