-- Accounts of counter groups that are on the panel, and what is told of them.
use Rattle.std.proofs.Common.{◌≡◌, ◌∙◌, ◌<◌, sym, ap, subst, ℕ, List, [], ◌++◌, Option, Some, None}
use Rattle.std.specs.Prelude.{IfSome}
use Rattle.hubs.specs.SetupsWords.Wiring.{Wiring}
use Rattle.explain_wheels.specs.ExplanationsWords.Explanations.{IsExplanation}
use Rattle.explain_wheels.specs.declared.explanations.explanation.Explanation.{Explanation}
use Rattle.explain_ledgers.specs.LedgersWords.Accounts.{IsAccount}
use Rattle.explain_ledgers.specs.LedgersWords.Running.{IsKeptLedger, PlacesLine}
use Rattle.explain_ledgers.specs.LedgersWords.Summaries.{Summary}
use Rattle.explain_ledgers.specs.declared.ledgers.account.Account.{Account}
use Rattle.explain_ledgers.specs.declared.ledgers.found.FoundCycle.{FoundCycle}
use Rattle.explain_ledgers.specs.LedgersWords.LedgerText.Entries.{Words}
use Rattle.explain_ledgers.specs.LedgersWords.LedgerText.Tellings.{ledger_text}
use Rattle.explain_wheel_ledgers.specs.Figures.{printed_text}
use Rattle.explain_wheel_ledgers.specs.Printed.{place_printed}
use Rattle.explain_wheel_ledgers.specs.ToldLedgers.{IsFigureText, IsPlaceText, IsTextFor, TellsLedger, account_told, words_told}
use Rattle.explain_wheel_ledgers.specs.declared.chart_totals.TitledAccount.{TitledAccount}

-- the account that is told for a place is on the panel
pub is_account_told : (total : Option TitledAccount) (place : ℕ) (account : Account) → account ≡ account_told total place
    → IfSome total (λ known. IsAccount known.account) → place < 32 → IsAccount account
is_account_told (Some total) place account told is below = subst IsAccount (sym told) is
is_account_told None place account told is below = subst IsAccount (sym told) below

-- what is kept of its ledger is of it
pub is_account_kept : (wiring : Wiring) (deck : List (List ℕ)) (passed ends : ℕ) (account : Account) (told : Summary)
    → IsKeptLedger wiring deck passed ends account told → IsAccount account → IsAccount told.account
is_account_kept wiring deck passed ends account told kept is = subst (λ (any : Summary). IsAccount any.account) (sym kept.told_is) is

-- the text of what is kept of a ledger
pub is_place_text : (wiring : Wiring) (cards : List (List ℕ)) (ends : ℕ) (found : FoundCycle) (total known : Option TitledAccount)
    (place : ℕ) (account : Account) (words : Option Words) (summary : Summary) (old new : List ℕ) → known ≡ total
    → account ≡ account_told known place → words ≡ words_told known → IsKeptLedger wiring cards found.passed ends account summary
    → old ≡ [] → new ≡ old ++ ledger_text summary found.cycle found.card words → IsPlaceText wiring cards ends found total place new
is_place_text wiring cards ends found total known place account words summary old new same told titled kept none written = record {
  summary = summary;
  is =
      subst (λ (any : Account). IsKeptLedger wiring cards found.passed ends any summary)
      (told ∙ ap (λ (one : Option TitledAccount). account_told one place) same) kept;
  text =
      written
      ∙ ap (λ (front : List ℕ). front ++ ledger_text summary found.cycle found.card words) none
      ∙ ap (λ (any : Option Words). ledger_text summary found.cycle found.card any) (titled ∙ ap words_told same);
}

-- with the figure that was printed
pub is_figure_text : (wiring : Wiring) (cards : List (List ℕ)) (ends : ℕ) (found : FoundCycle) (wheel : ℕ)
    (total known : Option TitledAccount) (place : ℕ) (account : Account) (ledger new : List ℕ) → known ≡ total
    → account ≡ account_told known place → IsPlaceText wiring cards ends found total place ledger
    → new ≡ ledger ++ printed_text wiring account found.line.text wheel → IsFigureText wiring cards ends found wheel total place new
is_figure_text wiring cards ends found wheel total known place account ledger new same told is written = record {
  ledger = ledger;
  is = is;
  text =
      written
      ∙ ap (λ (any : Account). ledger ++ printed_text wiring any found.line.text wheel)
      (told ∙ ap (λ (one : Option TitledAccount). account_told one place) same);
}

-- the text for a wheel that is explained, of the line that was found
pub tells_ledger : (wiring : Wiring) (cards : List (List ℕ)) (totals : List TitledAccount) (ends page line wheel : ℕ) (told : Explanation)
    (found : FoundCycle) (printed : Option ℕ) (answer : List ℕ) → IsExplanation wiring cards page line wheel told
    → PlacesLine wiring cards found → found.line.page ≡ page → found.line.line ≡ line → printed ≡ place_printed told
    → IsTextFor wiring cards ends found wheel totals printed answer → TellsLedger wiring cards totals ends page line wheel answer
tells_ledger wiring cards totals ends page line wheel told found printed answer explains places at_page at_line is text = record {
  explanation = told;
  explains = explains;
  found = found;
  places = places;
  at_page = at_page;
  at_line = at_line;
  text = subst (λ (any : Option ℕ). IsTextFor wiring cards ends found wheel totals any answer) is text;
}
