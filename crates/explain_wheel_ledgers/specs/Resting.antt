-- What a wheel is printed of: the ledgers of counter groups, and the origins of all else.
use Rattle.std.specs.Prelude.{◌≡◌, ℕ, ◌+◌, ◌==◌, ◌||◌, Bool, false, true, List, [], ◌∷◌, ◌++◌, Option, Some, None, Vec, option_and_then}
use Rattle.std.specs.declared.alloc.Global.{Global}
use Rattle.explain_wheels.specs.declared.explanations.explanation.Explanation.{Explanation}
use Rattle.hubs.specs.declared.hub.Hub.{Hub}
use Rattle.explain_ledgers.specs.LedgersWords.Running.{PlacesLine}
use Rattle.explain_ledgers.specs.declared.ledgers.found.FoundCycle.{FoundCycle}
use Rattle.explain_origins.specs.ToldOrigins.{AreOrigins}
use Rattle.hubs.specs.SetupsWords.Wiring.{Wiring}
use Rattle.explain_wheel_ledgers.specs.Places.{place_of}
use Rattle.explain_wheel_ledgers.specs.Printed.{group_of_way}
use Rattle.explain_wheel_ledgers.specs.ToldLedgers.{IsPlaceText}
use Rattle.explain_wheel_ledgers.specs.Totals.{find_total}
use Rattle.explain_wheel_ledgers.specs.declared.chart_totals.TitledAccount.{TitledAccount}

-- a place is this one
abbrev pub is_place : Option ℕ → ℕ → Bool
is_place None place = false
is_place (Some own) place = own == place

-- a way begins at an exit of the group of a place
abbrev pub begins_at : Option (Vec Hub Global) → ℕ → Bool
begins_at way place = is_place (option_and_then place_of (group_of_way way)) place

-- one of some ways does
abbrev pub is_printed_of : List (Option (Vec Hub Global)) → ℕ → Bool
is_printed_of [] place = false
is_printed_of (way ∷ ways) place = begins_at way place || is_printed_of ways place

-- The texts of the ledgers, one behind the other, of those of the first places at whose groups one of some ways begins.
pub data ArePlaceTexts (wiring : Wiring) (cards : List (List ℕ)) (totals : List TitledAccount) (ends : ℕ) (found : FoundCycle)
    (ways : List (Option (Vec Hub Global))) : ℕ → List ℕ → Type 0 where
  none : ArePlaceTexts wiring cards totals ends found ways 0 []
  more :
      (place : ℕ) (texts text : List ℕ) → ArePlaceTexts wiring cards totals ends found ways place texts
      → is_printed_of ways place ≡ true → IsPlaceText wiring cards ends found (find_total totals place) place text
      → ArePlaceTexts wiring cards totals ends found ways (place + 1) (texts ++ text)
  other :
      (place : ℕ) (texts : List ℕ) → ArePlaceTexts wiring cards totals ends found ways place texts → is_printed_of ways place ≡ false
      → ArePlaceTexts wiring cards totals ends found ways (place + 1) texts

-- Before a cycle that placed a line, by the ways to a wheel at the rows of the cycle: the text tells the ledgers of all counter groups at
-- whose exits one of the ways begins, and behind them the origins of what else they begin at, and of the cycle.
pub record IsBasisText (wiring : Wiring) (cards : List (List ℕ)) (totals : List TitledAccount) (ends : ℕ) (found : FoundCycle)
    (ways : List (Option (Vec Hub Global))) (answer : List ℕ) : Type 0 where
  pub ledgers : List ℕ
  pub texts : ArePlaceTexts wiring cards totals ends found ways 32 ledgers
  pub origins : List ℕ
  pub are : AreOrigins wiring cards found ways origins
  pub whole : answer ≡ ledgers ++ origins

-- On a panel, over cards, by the totals of a chart: the text tells what the wheel of the line at this page and line of it is printed of, by
-- the ways of its explanation, before a cycle that placed the line there.
pub record TellsBasis (wiring : Wiring) (cards : List (List ℕ)) (totals : List TitledAccount) (ends page line : ℕ)
    (explanation : Explanation) (answer : List ℕ) : Type 0 where
  pub found : FoundCycle
  pub places : PlacesLine wiring cards found
  pub at_page : found.line.page ≡ page
  pub at_line : found.line.line ≡ line
  pub basis : IsBasisText wiring cards totals ends found explanation.rows.items answer
