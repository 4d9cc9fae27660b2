-- What comparing has collected, read off as words of positions.
use Rattle.std.specs.Prelude.{◌≡◌, ℕ, List, length, slice_index_or}
use Rattle.card_code.specs.Rows.{passing_place}
use Rattle.card_code.specs.declared.row.Row.{Row}
use Rattle.net.specs.HubSets.{is_bit}
use Rattle.net.specs.HubRows.{has_at}
use Rattle.stations.specs.Comparing.{Compared}

-- Twelve pairs of words, one for each row in the order of the points: the first word has the bit p - 1 exactly if CA.p was impulsed there,
-- the second one if CB.p was.
pub record AreSetsOf (compared : Compared) (words : List (ℕ × ℕ)) : Type 0 where
  pub twelve : length words ≡ 12
  pub first : (row : Row) (k : ℕ) → is_bit (slice_index_or words (passing_place row) (0, 0)).0 k ≡ has_at compared.first k (passing_place row)
  pub second : (row : Row) (k : ℕ) → is_bit (slice_index_or words (passing_place row) (0, 0)).1 k ≡ has_at compared.second k (passing_place row)
