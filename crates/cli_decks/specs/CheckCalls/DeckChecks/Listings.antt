-- Which lines are told of a deck: one for each bad card, in the order of the deck; and, as long as no card was bad, one for each card with
-- which a group ends whose total does not fit.
use Rattle.std.specs.Prelude.{◌≡◌, ℕ, ◌+◌, ◌≤◌, List, [], ◌∷◌, ◌++◌, Option, Some, None, length, option_map, option_to_list}
use Rattle.std.specs.List.{flat_map}
use Rattle.card_code.specs.Lines.{lines_of}
use Rattle.card_code.specs.MostCards.{most_cards}
use Rattle.chart_lines.specs.ChartsWords.Chart.{Chart}
use Rattle.cli_decks.specs.CheckCalls.DeckChecks.BadLines.{IsBadLine, IsGoodLine}
use Rattle.report_definition.specs.FollowedDecks.FitSoFar.{misfits_of_last}
use Rattle.fault_lines.specs.FaultsWords.Lines.{fault_line}
use Rattle.fault_lines.specs.FaultsWords.ToldFaults.{run_told}
use Rattle.fault_lines.specs.declared.faults.deck.RunFault.TheVariants as deck
use Rattle.fault_lines.specs.declared.faults.fault.Fault.{Fault}
use Rattle.report_definition.specs.Misfits.{Misfit, first_of}

-- what is told of a total that does not fit
abbrev pub misfit_told : Misfit → Fault
misfit_told misfit = run_told (deck.DoesNotFit misfit.level misfit.name misfit.card)

-- What is told of the groups that end with the last of the good cards so far, given the next card, or the end of the deck: the first of their
-- totals that does not fit. Nothing before the first card, and nothing once a card was bad, since sums without it mean nothing.
abbrev pub totals_told : Chart → (so_far : Option (List (List ℕ))) → (next : Option (List ℕ)) → List Fault
totals_told chart None next = []
totals_told chart (Some []) next = []
totals_told chart (Some (card ∷ cards)) next =
    option_to_list (option_map misfit_told (first_of (misfits_of_last chart.lines card cards next)))

-- the good cards so far, with one more
abbrev pub with_card : List ℕ → Option (List (List ℕ)) → Option (List (List ℕ))
with_card card so_far = option_map (λ cards. cards ++ card ∷ []) so_far

-- What is told of the first lines of a deck, and, while none of them was bad, their cards. Where a good card comes next, the totals of the groups
-- that end before it are tried; where a bad line comes next, it is told.
pub data Lists (chart : Chart) : (lines : List (List ℕ)) → (so_far : Option (List (List ℕ))) → (told : List Fault) → Type 0 where
  none : Lists chart [] (Some []) []
  good : (lines : List (List ℕ)) (so_far : Option (List (List ℕ))) (told : List Fault) (line card : List ℕ)
      → Lists chart lines so_far told → IsGoodLine chart line card
      → Lists chart (lines ++ line ∷ []) (with_card card so_far) (told ++ totals_told chart so_far (Some card))
  bad : (lines : List (List ℕ)) (so_far : Option (List (List ℕ))) (told : List Fault) (line : List ℕ) (fault : Fault)
      → Lists chart lines so_far told → IsBadLine chart (length lines + 1) line fault
      → Lists chart (lines ++ line ∷ []) None (told ++ fault ∷ [])

-- What is told of a whole deck of at most 999,999 lines. Behind the last of them the totals of all groups that end there are tried.
pub record IsListing (chart : Chart) (text : List ℕ) (told : List Fault) : Type 0 where
  pub few : length (lines_of text) ≤ most_cards
  pub so_far : Option (List (List ℕ))
  pub before : List Fault
  pub lists : Lists chart (lines_of text) so_far before
  pub all : told ≡ before ++ totals_told chart so_far None

-- What was told of the first lines of a deck, so many, and what of its text is still to come.
pub record HasListedLines (chart : Chart) (text : List ℕ) (count : ℕ) (rest : List ℕ) (told : List Fault) : Type 0 where
  pub lines : List (List ℕ)
  pub cut : lines_of text ≡ lines ++ lines_of rest
  pub counted : length lines ≡ count
  pub so_far : Option (List (List ℕ))
  pub lists : Lists chart lines so_far told

-- the lines that tell faults
abbrev pub lines_told : List Fault → List ℕ
lines_told told = flat_map fault_line told
