-- The ledger of the figure on a wheel of a printed line.
use Rattle.std.specs.Prelude.{◌≡◌, ℕ, List, ◌++◌, Option, Some, None}
use Rattle.explain_wheels.specs.ExplanationsWords.Explanations.{IsExplanation}
use Rattle.explain_wheels.specs.declared.explanations.explanation.Explanation.{Explanation}
use Rattle.explain_ledgers.specs.LedgersWords.LedgerText.Entries.{Words}
use Rattle.explain_ledgers.specs.LedgersWords.LedgerText.Tellings.{ledger_text, no_ledger_text}
use Rattle.explain_ledgers.specs.LedgersWords.LedgerText.Titles.{words_of}
use Rattle.explain_ledgers.specs.LedgersWords.Running.{IsKeptLedger, PlacesLine}
use Rattle.explain_ledgers.specs.LedgersWords.Summaries.{Summary}
use Rattle.explain_ledgers.specs.declared.ledgers.account.Account.{Account}
use Rattle.explain_ledgers.specs.declared.ledgers.account.Account.TheVariants.{One}
use Rattle.explain_ledgers.specs.declared.ledgers.found.FoundCycle.{FoundCycle}
use Rattle.hubs.specs.SetupsWords.Wiring.{Wiring}
use Rattle.explain_wheel_ledgers.specs.Figures.{printed_text}
use Rattle.explain_wheel_ledgers.specs.Printed.{place_printed}
use Rattle.explain_wheel_ledgers.specs.Totals.{find_total}
use Rattle.explain_wheel_ledgers.specs.declared.chart_totals.TitledAccount.{TitledAccount}

-- the account that is told for a place: that of the chart's total, or else that of the one group
abbrev pub account_told : Option TitledAccount → ℕ → Account
account_told (Some total) place = total.account
account_told None place = One place

-- the words of a chart for it
abbrev pub words_told : Option TitledAccount → Option Words
words_told (Some total) = Some (words_of total.title)
words_told None = None

-- The text of the ledger of a place, before a cycle that placed a line: its entries are those of the account that is told for the place.
pub record IsPlaceText (wiring : Wiring) (cards : List (List ℕ)) (ends : ℕ) (found : FoundCycle) (total : Option TitledAccount)
    (place : ℕ) (answer : List ℕ) : Type 0 where
  pub summary : Summary
  pub is : IsKeptLedger wiring cards found.passed ends (account_told total place) summary
  pub text : answer ≡ ledger_text summary found.cycle found.card (words_told total)

-- The text for a figure: the ledger of a place, and the figure that stands on the wheel.
pub record IsFigureText (wiring : Wiring) (cards : List (List ℕ)) (ends : ℕ) (found : FoundCycle) (wheel : ℕ)
    (total : Option TitledAccount) (place : ℕ) (answer : List ℕ) : Type 0 where
  pub ledger : List ℕ
  pub is : IsPlaceText wiring cards ends found total place ledger
  pub text : answer ≡ ledger ++ printed_text wiring (account_told total place) found.line.text wheel

-- The text for what is printed on a wheel: the ledger of the place of a counter group, or that there is none.
abbrev pub IsTextFor : Wiring → List (List ℕ) → (ends : ℕ) → FoundCycle → ℕ → List TitledAccount → Option ℕ → List ℕ → Type 0
IsTextFor wiring cards ends found wheel totals None answer = answer ≡ no_ledger_text
IsTextFor wiring cards ends found wheel totals (Some place) answer =
    IsFigureText wiring cards ends found wheel (find_total totals place) place answer

-- On a panel, over cards, by the totals of a chart: the text tells the ledger of the counter group that is printed on the wheel of the line
-- at this page and line of it, as the explanation of the wheel has it, before a cycle that placed the line there.
pub record TellsLedger (wiring : Wiring) (cards : List (List ℕ)) (totals : List TitledAccount) (ends page line wheel : ℕ)
    (answer : List ℕ) : Type 0 where
  pub explanation : Explanation
  pub explains : IsExplanation wiring cards page line wheel explanation
  pub found : FoundCycle
  pub places : PlacesLine wiring cards found
  pub at_page : found.line.page ≡ page
  pub at_line : found.line.line ≡ line
  pub text : IsTextFor wiring cards ends found wheel totals (place_printed explanation) answer
