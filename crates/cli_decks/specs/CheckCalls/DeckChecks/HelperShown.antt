-- Helper words of the code: what was shown of a deck up to some line.
use Rattle.std.specs.Prelude.{◌≡◌, ℕ, ◌≤◌, List, ◌++◌, Option, length, option_to_list, slice_get}
use Rattle.std.specs.List.{flat_map}
use Rattle.card_code.specs.Lines.{lines_of}
use Rattle.card_code.specs.MostCards.{most_cards}
use Rattle.chart_lines.specs.ChartsWords.Chart.{Chart}
use Rattle.cli_decks.specs.CheckCalls.DeckChecks.HelperStanding.{IsAt, Takes}
use Rattle.cli_decks.specs.CheckCalls.DeckChecks.HelperTold.{first_with}
use Rattle.cli_decks.specs.CheckCalls.DeckChecks.Listings.{Lists}
use Rattle.cli_decks.specs.CheckCalls.DeckChecks.Shown.{entries_told, entry_told}
use Rattle.cli_decks.specs.declared.check_calls.deck_checks.shown.Shown.{Shown}
use Rattle.cli_decks.specs.declared.check_calls.deck_checks.standing.Standing.{Standing}
use Rattle.fault_lines.specs.declared.faults.fault.Fault.{Fault}

-- what may be told of a line is put behind what was shown
pub record Gains (chart : Chart) (line : List ℕ) (told : Option Fault) (old new : Shown) : Type 0 where
  pub first : new.first ≡ first_with old.first told
  pub text : new.text.items ≡ old.text.items ++ flat_map (entry_told chart line) (option_to_list told)

-- A line was taken, and what is told of it is shown.
pub record TakesShown (chart : Chart) (number : ℕ) (line : List ℕ) (so_far : Option (List (List ℕ))) (now : Standing) (old new : Shown)
    : Type 0 where
  pub told : Option Fault
  pub takes : Takes chart number line so_far (option_to_list told) now
  pub gains : Gains chart line told old new

-- How it stands between two lines: what is left of the deck, and what was shown of the others.
pub record HasShown (chart : Chart) (deck rest : List ℕ) (standing : Standing) (shown : Shown) : Type 0 where
  pub lines : List (List ℕ)
  pub so_far : Option (List (List ℕ))
  pub told : List Fault
  pub lists : Lists chart lines so_far told
  pub at : IsAt chart.lines so_far standing
  pub counted : standing.count ≡ length lines
  pub few : length lines ≤ most_cards
  pub cut : lines_of deck ≡ lines ++ lines_of rest
  pub is_first : shown.first ≡ slice_get told 0
  pub text : shown.text.items ≡ entries_told chart deck told
