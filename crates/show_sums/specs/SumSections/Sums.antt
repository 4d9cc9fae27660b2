-- The sums behind the figures of a page: for each counter group that is printed on a line the ledger of its number, as the cycle found it
-- that printed the line.
use Rattle.std.specs.Prelude.{◌≡◌, ℕ, ◌&&◌, nat_le, if◌then◌else◌, List, [], ◌∷◌, ◌++◌, Some, None, false, map, true}
use Rattle.explain_wheels.specs.ExplanationsWords.Explanations.{IsExplanation}
use Rattle.explain_wheels.specs.declared.explanations.explanation.Explanation.{Explanation}
use Rattle.explain_ledgers.specs.LedgersWords.LedgerText.Names.{account_text}
use Rattle.explain_ledgers.specs.LedgersWords.Accounts.{positions_of}
use Rattle.explain_ledgers.specs.LedgersWords.Running.{IsKeptLedger, PlacesLine}
use Rattle.explain_ledgers.specs.declared.ledgers.account.Account.{Account}
use Rattle.explain_origins.specs.Levels.{called_by}
use Rattle.explain_words.specs.declared.explanation_text.text.ToldWheel.{ToldWheel}
use Rattle.hubs.specs.SetupsWords.Wiring.{Wiring}
use Rattle.show_links.specs.SumPlaces.Places.{account_at, has_sum, sum_at}
use Rattle.show_links.specs.declared.sum_places.places.SumPlace.{SumPlace}
use Rattle.explain_wheel_ledgers.specs.Figures.{figure_on}
use Rattle.explain_wheel_ledgers.specs.Printed.{place_printed}
use Rattle.explain_wheel_ledgers.specs.Totals.{find_total}
use Rattle.explain_wheel_ledgers.specs.declared.chart_totals.TitledAccount.{TitledAccount}
use Rattle.show_sums.specs.declared.sum_sections.sums.PageSum.{PageSum}

-- the wheel is explained
abbrev pub IsExplained : Wiring → (deck : List (List ℕ)) → Explanation → Type 0
IsExplained wiring deck why = IsExplanation wiring deck why.line.page why.line.line why.wheel why

-- the figure of an account on a wheel of a line; none if the wheel isn't one of 1 to 120
abbrev pub figure_of : Wiring → Account → (line : List ℕ) → (wheel : ℕ) → List ℕ
figure_of wiring account line wheel = if nat_le 1 wheel && nat_le wheel 120 then figure_on wiring account line wheel else []

-- The sum behind a wheel that is printed of the group of a place: the ledger of the account that is told for the place, as the cycle found it
-- that printed the line.
pub record IsSumOf (wiring : Wiring) (totals : List TitledAccount) (deck : List (List ℕ)) (why : Explanation) (place : ℕ) (sum : PageSum) :
    Type 0 where
  pub at : sum.at ≡ sum_at totals why place
  pub total : sum.total ≡ find_total totals place
  pub places : PlacesLine wiring deck sum.found
  pub at_page : sum.found.line.page ≡ why.line.page
  pub at_line : sum.found.line.line ≡ why.line.line
  pub kept : IsKeptLedger wiring deck sum.found.passed 100 (account_at totals place) sum.ledger
  pub positions : sum.positions ≡ positions_of (account_at totals place)
  pub groups : sum.groups.items ≡ account_text (account_at totals place)
  pub figure : sum.figure.items ≡ figure_of wiring (account_at totals place) sum.found.line.text sum.at.wheel
  pub why_ran : sum.why.items ≡ called_by wiring deck sum.found.card sum.found.cycle

-- where a sum stands
abbrev pub place_of : PageSum → SumPlace
place_of sum = sum.at

-- Some sums take that behind a wheel: none is taken if no counter group is printed on it, or if the sum is there already.
pub data TakesSum (wiring : Wiring) (totals : List TitledAccount) (deck : List (List ℕ)) (why : Explanation) :
    List PageSum → List PageSum → Type 0 where
  none : (sums : List PageSum) → place_printed why ≡ None → TakesSum wiring totals deck why sums sums
  known :
      (sums : List PageSum) (place : ℕ) → place_printed why ≡ Some place
      → has_sum (map place_of sums) (sum_at totals why place) ≡ true → TakesSum wiring totals deck why sums sums
  new :
      (sums : List PageSum) (place : ℕ) (sum : PageSum) → place_printed why ≡ Some place
      → has_sum (map place_of sums) (sum_at totals why place) ≡ false → IsSumOf wiring totals deck why place sum
      → TakesSum wiring totals deck why sums (sums ++ sum ∷ [])

-- The sums behind some wheels that are told of, wheel by wheel: each once.
pub data AreSums (wiring : Wiring) (totals : List TitledAccount) (deck : List (List ℕ)) : List ToldWheel → List PageSum → Type 0 where
  begun : AreSums wiring totals deck [] []
  more :
      (told : List ToldWheel) (one : ToldWheel) (old new : List PageSum) → AreSums wiring totals deck told old
      → TakesSum wiring totals deck one.why old new → AreSums wiring totals deck (told ++ one ∷ []) new
