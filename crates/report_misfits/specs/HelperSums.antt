-- Helper words of the code: what the sums of a chart keep between two cards.
use Rattle.std.specs.Prelude.{ℕ, ◌*◌, ◌≤◌, List}
use Rattle.std.specs.List.{All}
use Rattle.card_code.specs.MostCards.{most_cards}
use Rattle.report_misfits.specs.HelperAmounts.{IsGoodAmount}
use Rattle.report_misfits.specs.HelperNumbers.{AreNumbered}
use Rattle.report_misfits.specs.HelperPending.{settled}
use Rattle.report_misfits.specs.HelperTotals.{IsKept, IsWithin, above_amounts}
use Rattle.report_misfits.specs.declared.open_total.Amount.{Amount}
use Rattle.report_misfits.specs.declared.open_total.OpenTotal.{OpenTotal}

-- After so many cards the totals keep their bounds with what is pending, their amounts are those at the places, and these are good and
-- have little pending.
pub record AreKeptSums (totals : List OpenTotal) (places : List ℕ) (amounts : List Amount) (cards : ℕ) : Type 0 where
  pub few : cards ≤ most_cards
  pub kept : All (IsKept cards) (settled totals places amounts)
  pub numbered : AreNumbered totals places amounts
  pub good : All (λ amount. IsGoodAmount amount.field) amounts
  pub little : All (λ amount. IsWithin (cards * above_amounts) amount.pending) amounts
