-- The column splits: 16 selectors of one position each. A split leads to its digit exit at the rows 9 to 0 and to its zone
-- exit at the rows 11 and 12, in all cycles; at the control point and at the closing point it leads nowhere.
use Rattle.std.specs.Prelude.{ℕ, ◌&&◌, not, nat_le, Bool, false}
use Rattle.card_code.specs.Rows.{row_number}
use Rattle.card_code.specs.declared.row.Row.{Row as CardRow}
use Rattle.hubs.specs.HubTable.Ranges.{is_within}
use Rattle.hubs.specs.declared.hub.Hub.{Hub}
use Rattle.hubs.specs.declared.hub.Hub.TheVariants.{CSD, CSZ}
use Rattle.net.specs.declared.cycle.Cycle.{Cycle}
use Rattle.net.specs.declared.cycle.Point.{Point}
use Rattle.net.specs.declared.cycle.Point.TheVariants.{Row}
use Rattle.selectors.specs.declared.splits.Splits.{Splits}

-- the rows of digits: 9 to 0
abbrev pub is_digit_row : CardRow → Bool
is_digit_row row = nat_le (row_number row) 9

-- The contacts that are closed at a point.
abbrev pub split_closes : Point → Hub → Bool
split_closes (Row row) (CSD split) = is_digit_row row && is_within split 16
split_closes (Row row) (CSZ split) = not (is_digit_row row) && is_within split 16
split_closes point hub = false

-- Splits have no state.
abbrev pub splits_at_start : Splits
splits_at_start = record {}

-- Their contacts, in all cycles alike.
abbrev pub splits_closes : Splits → Cycle → Point → Hub → Bool
splits_closes splits cycle point hub = split_closes point hub

-- their number among the units
abbrev pub splits_number : Splits → ℕ
splits_number splits = 41
