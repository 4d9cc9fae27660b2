-- Ledgers one behind the other.
use Rattle.std.proofs.Common.{◌≡◌, ◌+◌, sym, subst, ℕ, true, List, ◌++◌, Option}
use Rattle.std.specs.Prelude.{Vec}
use Rattle.std.specs.declared.alloc.Global.{Global}
use Rattle.explain_wheels.specs.declared.explanations.explanation.Explanation.{Explanation}
use Rattle.hubs.specs.declared.hub.Hub.{Hub}
use Rattle.explain_ledgers.specs.LedgersWords.Running.{PlacesLine}
use Rattle.explain_ledgers.specs.declared.ledgers.found.FoundCycle.{FoundCycle}
use Rattle.hubs.specs.SetupsWords.Wiring.{Wiring}
use Rattle.explain_wheel_ledgers.specs.Resting.{ArePlaceTexts, IsBasisText, TellsBasis, is_printed_of, more}
use Rattle.explain_wheel_ledgers.specs.ToldLedgers.{IsPlaceText}
use Rattle.explain_wheel_ledgers.specs.Totals.{find_total}
use Rattle.explain_wheel_ledgers.specs.declared.chart_totals.TitledAccount.{TitledAccount}

-- one ledger more
pub one_more : (wiring : Wiring) (cards : List (List ℕ)) (totals : List TitledAccount) (ends : ℕ) (found : FoundCycle)
    (ways : List (Option (Vec Hub Global))) (place : ℕ) (old text new : List ℕ)
    → ArePlaceTexts wiring cards totals ends found ways place old → is_printed_of ways place ≡ true
    → IsPlaceText wiring cards ends found (find_total totals place) place text → new ≡ old ++ text
    → ArePlaceTexts wiring cards totals ends found ways (place + 1) new
one_more wiring cards totals ends found ways place old text new are printed is put =
    subst (λ (all : List ℕ). ArePlaceTexts wiring cards totals ends found ways (place + 1) all) (sym put) (more place old text are printed is)

-- all of them, by the explanation of a wheel of the line that was found
pub tells_basis : (wiring : Wiring) (cards : List (List ℕ)) (totals : List TitledAccount) (ends page line : ℕ) (told : Explanation)
    (found : FoundCycle) (ways : List (Option (Vec Hub Global))) (answer : List ℕ) → PlacesLine wiring cards found
    → found.line.page ≡ page → found.line.line ≡ line → ways ≡ told.rows.items
    → IsBasisText wiring cards totals ends found ways answer → TellsBasis wiring cards totals ends page line told answer
tells_basis wiring cards totals ends page line told found ways answer places at_page at_line are texts = record {
  found = found;
  places = places;
  at_page = at_page;
  at_line = at_line;
  basis = subst (λ (any : List (Option (Vec Hub Global))). IsBasisText wiring cards totals ends found any answer) are texts;
}
