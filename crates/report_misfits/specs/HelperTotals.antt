-- Helper words of the code: the bounds that open totals keep, and what several of them tell.
use Rattle.std.specs.Prelude.{ℕ, zero, suc, ℤ, pos, ◌*◌, ◌≤ℤ◌, neg_ℤ, ◌≤◌, List, [], ◌++◌}
use Rattle.std.specs.List.{filter_map}
use Rattle.report_definition.specs.Misfits.{Misfit}
use Rattle.report_misfits.specs.declared.open_total.OpenTotal.{OpenTotal}
use Rattle.report_misfits.specs.HelperAmounts.{IsGoodAmount}
use Rattle.report_misfits.specs.OpenTotals.{misfit_at}

-- so many digits a total has at most, that a number of 64 bits has room for a number above it
abbrev pub most_digits : ℕ
most_digits = 19

-- the amount on a card is below this number
abbrev pub above_amounts : ℕ
above_amounts = 100000000

-- a number is at most so much above 0 or below
abbrev pub IsWithin : ℕ → ℤ → Type 0
IsWithin most number = (neg_ℤ (pos most) ≤ℤ number) × (number ≤ℤ pos most)

-- An open total keeps the bounds after so many cards: its amount's columns and digits, the digits of its total line, and its sum.
pub record IsKept (cards : ℕ) (total : OpenTotal) : Type 0 where
  pub amount : IsGoodAmount total.field
  pub few_digits : total.digits ≤ most_digits
  pub small : IsWithin (cards * above_amounts) total.sum

-- the misfits of open totals where the groups of the levels 1 to a given one end, the lowest first
abbrev pub misfits_among : List OpenTotal → (card ended : ℕ) → List Misfit
misfits_among totals card zero = []
misfits_among totals card (suc level) = misfits_among totals card level ++ filter_map (misfit_at (suc level) card) totals
