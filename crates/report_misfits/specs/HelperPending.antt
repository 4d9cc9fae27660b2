-- Helper words of the code: what is pending of the amounts, and the totals with it.
use Rattle.std.specs.Prelude.{ℕ, ℤ, pos, ◌+ℤ◌, List, [], ◌∷◌, Option, Some, None, slice_get}
use Rattle.report_definition.specs.Amounts.{value_of}
use Rattle.report_misfits.specs.OpenTotals.{with_value}
use Rattle.report_misfits.specs.declared.open_total.Amount.{Amount}
use Rattle.report_misfits.specs.declared.open_total.OpenTotal.{OpenTotal}

-- an amount with its value on a card more
abbrev pub taking_card : List ℕ → Amount → Amount
taking_card card amount = record amount { pending = amount.pending +ℤ value_of amount.field card }

-- an amount of which nothing is pending
abbrev pub emptied : Amount → Amount
emptied amount = record amount { pending = pos 0 }

-- what is pending of an amount, if there is one
abbrev pub pending_in : Option Amount → ℤ
pending_in (Some amount) = amount.pending
pending_in None = pos 0

-- what is pending of the amount at a place
abbrev pub pending_at : List Amount → ℕ → ℤ
pending_at amounts place = pending_in (slice_get amounts place)

-- totals with what is pending of the amounts at their places
abbrev pub settled : List OpenTotal → List ℕ → List Amount → List OpenTotal
settled [] places amounts = []
settled (total ∷ totals) [] amounts = total ∷ totals
settled (total ∷ totals) (place ∷ places) amounts = with_value (pending_at amounts place) total ∷ settled totals places amounts
