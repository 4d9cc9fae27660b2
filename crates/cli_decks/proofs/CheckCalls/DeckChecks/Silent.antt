-- A deck of which nothing is told.
use Rattle.std.proofs.Common.{◌≡◌, refl, sym, ap, subst, ℕ, suc, ◌≤◌, List, [], ◌∷◌, ◌++◌, Option, Some, None, length, option_to_list, option_map}
use Rattle.std.proofs.lemmas.List.Elements.{All-append, All-cons, All-nil, AllZip-push}
use Rattle.std.specs.List.{AllZip}
use Rattle.std.specs.Prelude.{⊤, All}
use Rattle.card_code.specs.Deck.{IsCardOf}
use Rattle.card_code.specs.Lines.{lines_of}
use Rattle.card_code.specs.MostCards.{most_cards}
use Rattle.chart_rules.specs.ValidCard.{IsValidCard}
use Rattle.chart_lines.specs.ChartsWords.Chart.{Chart}
use Rattle.chart_lines.specs.declared.charts.chart.Line.{Line}
use Rattle.cli_decks.specs.CheckCalls.DeckChecks.Laws.{DecksWithoutFaultsFit}
use Rattle.cli_decks.specs.CheckCalls.DeckChecks.Listings as listings
use Rattle.cli_decks.specs.CheckCalls.DeckChecks.Listings.{Lists, misfit_told, totals_told}
use Rattle.report_definition.proofs.FollowedDecks.FitSoFar.{fits_end, fits_go_on}
use Rattle.report_definition.specs.FollowedDecks.FitSoFar.{FitSoFar, misfits_of_last}
use Rattle.fault_lines.specs.declared.faults.fault.Fault.{Fault}
use Rattle.report_definition.proofs.Fitting.{fit_without_misfits}
use Rattle.report_definition.specs.Misfits.{Misfit, first_of}
use Rattle.report_definition.specs.Totals.{Fits}

-- two lists of which nothing is left have nothing
pub left_empty : {X : Type 0} (one other : List X) → one ++ other ≡ [] → (one ≡ []) × (other ≡ [])
left_empty [] other is = (refl, is)
left_empty (x ∷ xs) other is = absurd cc

-- where no total is told, none is a misfit
no_misfit : (found : List Misfit) → option_to_list (option_map misfit_told (first_of found)) ≡ [] → found ≡ []
no_misfit [] is = refl
no_misfit (misfit ∷ others) is = absurd cc

-- no group that has ended has a misfit
abbrev pub HaveFit : List Line → List (List ℕ) → Type 0
HaveFit lines [] = ⊤
HaveFit lines (card ∷ cards) = FitSoFar lines card cards

fit_more : (chart : Chart) (cards : List (List ℕ)) (card : List ℕ) → HaveFit chart.lines cards → totals_told chart (Some cards) (Some card) ≡ []
    → HaveFit chart.lines (cards ++ card ∷ [])
fit_more chart [] card fit none = (fits_go_on chart.lines card).0
fit_more chart (first ∷ cards) card fit none =
    (fits_go_on chart.lines first).1 cards card fit (no_misfit (misfits_of_last chart.lines first cards (Some card)) none)

pub fit_all : (chart : Chart) (cards : List (List ℕ)) → HaveFit chart.lines cards → totals_told chart (Some cards) None ≡ [] → Fits chart.lines cards
fit_all chart [] fit none = (fit_without_misfits chart.lines []).1 refl
fit_all chart (card ∷ cards) fit none =
    fits_end chart.lines card cards fit (no_misfit (misfits_of_last chart.lines card cards None) none)

-- The lines are cards that are valid, and no group that has ended has a misfit.
pub record AreGood (chart : Chart) (lines : List (List ℕ)) (so_far : Option (List (List ℕ))) : Type 0 where
  pub cards : List (List ℕ)
  pub are : so_far ≡ Some cards
  pub each : AllZip IsCardOf lines cards
  pub valid : All (IsValidCard chart) cards
  pub fit : HaveFit chart.lines cards

pub silent : {chart : Chart} {lines : List (List ℕ)} {so_far : Option (List (List ℕ))} {told : List Fault} → Lists chart lines so_far told → told ≡ []
    → AreGood chart lines so_far
silent {chart} listings.none empty = record { cards = []; are = refl; each = tt; valid = All-nil (IsValidCard chart); fit = tt }
silent {chart} (listings.good lines so_far told line card before is) empty =
    let parts = left_empty told (totals_told chart so_far (Some card)) empty in
    let known = silent before parts.0 in
    record {
      cards = known.cards ++ card ∷ [];
      are = ap (λ s. option_map (λ cards. cards ++ card ∷ []) s) known.are;
      each = AllZip-push IsCardOf lines known.cards line card known.each is.punched;
      valid = All-append (IsValidCard chart) known.cards (card ∷ []) known.valid
          (All-cons (IsValidCard chart) card [] is.valid (All-nil (IsValidCard chart)));
      fit = fit_more chart known.cards card known.fit (subst (λ s. totals_told chart s (Some card) ≡ []) known.are parts.1);
    }
silent {chart} (listings.bad lines so_far told line fault before is) empty = absurd (no_more told fault empty)
  where
    no_more : (told : List Fault) (fault : Fault) → told ++ fault ∷ [] ≡ [] → ⊥
    no_more [] fault is = cc
    no_more (one ∷ others) fault is = cc

-- as many cards as lines
pub as_many : (lines cards : List (List ℕ)) → AllZip IsCardOf lines cards → length cards ≡ length lines
as_many [] [] each = refl
as_many [] (card ∷ cards) each = absurd each
as_many (line ∷ lines) [] each = absurd each
as_many (line ∷ lines) (card ∷ cards) each = ap suc (as_many lines cards each.1)

pub decks_without_faults : DecksWithoutFaultsFit
decks_without_faults chart text listing =
    let parts = left_empty listing.before (totals_told chart listing.so_far None) (sym listing.all) in
    let known = silent listing.lists parts.0 in
    record {
      cards = known.cards;
      deck = record {
        few = subst (λ n. n ≤ most_cards) (sym (as_many (lines_of text) known.cards known.each)) listing.few;
        each = known.each;
      };
      valid = known.valid;
      fit = fit_all chart known.cards known.fit (subst (λ s. totals_told chart s None ≡ []) known.are parts.1);
    }
