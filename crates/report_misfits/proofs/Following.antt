-- How the sums follow a deck whose cards come one by one.
use Rattle.std.proofs.Common.{◌≡◌, ◌∙◌, sym, ap, ℕ, ◌+◌, List, [], ◌∷◌, ◌++◌, Option, Some, length, length-append}
use Rattle.chart_lines.specs.declared.charts.chart.Line.{Line}
use Rattle.report_definition.specs.FollowedDecks.CardMisfits.{misfits_to}
use Rattle.report_definition.specs.FollowedDecks.FitSoFar.{groups_before, misfits_of_last}
use Rattle.report_definition.specs.FollowedDecks.Stands.{last_of}
use Rattle.report_definition.proofs.FollowedDecks.FitSoFar.{groups-more}
use Rattle.report_definition.specs.Breaks.{cleared, ended_after, no_cards, taking}
use Rattle.report_definition.specs.Misfits.{Misfit, first_of}
use Rattle.report_misfits.specs.OpenSums.{AreSumsOf, Sums}
use Rattle.report_misfits.specs.OpenTotals.{open_totals}

-- The sums are those before the last of a card and the cards after it.
pub record SumsBefore (lines : List Line) (card : List ℕ) (cards : List (List ℕ)) (sums : Sums) : Type 0 where
  pub are : AreSumsOf lines (groups_before lines card cards) sums
  pub counted : sums.cards ≡ length cards

-- before the first card is taken
pub sums_begin : (lines : List Line) (card : List ℕ) (sums : Sums) → AreSumsOf lines no_cards sums → sums.cards ≡ 0 → SumsBefore lines card [] sums
sums_begin lines card sums are none = record { are = are; counted = none }

-- what is told where the last card is taken, given the next
pub sums_tell : (lines : List Line) (card : List ℕ) (cards : List (List ℕ)) (sums : Sums) (next : Option (List ℕ)) (found : Option Misfit)
    → SumsBefore lines card cards sums
    → found ≡ first_of (misfits_to lines (sums.cards + 1) (ended_after lines (last_of card cards) next)
    (taking (last_of card cards) (groups_before lines card cards)))
    → found ≡ first_of (misfits_of_last lines card cards next)
sums_tell lines card cards sums next found before tells =
    tells
    ∙ ap
    (λ n. first_of (misfits_to lines (n + 1) (ended_after lines (last_of card cards) next)
    (taking (last_of card cards) (groups_before lines card cards))))
    before.counted

-- and what the sums then are
pub sums_go_on : (lines : List Line) (card : List ℕ) (cards : List (List ℕ)) (next : List ℕ) (old new : Sums) → SumsBefore lines card cards old
    → AreSumsOf lines (cleared (ended_after lines (last_of card cards) (Some next)) (taking (last_of card cards) (groups_before lines card cards))) new
    → new.cards ≡ old.cards + 1
    → SumsBefore lines card (cards ++ next ∷ []) new
sums_go_on lines card cards next old new before are more = record {
  are = are ∙ ap (λ groups. open_totals lines groups lines) (sym (groups-more lines card cards next));
  counted = more ∙ ap (λ n. n + 1) before.counted ∙ sym (length-append cards (next ∷ []));
}
