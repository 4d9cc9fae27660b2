-- Comparing: in a card cycle each of the 60 entries collects the row points at which it is impulsed, and at the closing point a
-- position emits where the sets of points of its two entries differ. The end of every cycle makes comparing forget them.
use Rattle.std.specs.Prelude.{◌≡◌, ℕ, suc, ◌-◌, ◌^◌, ◌==◌, ◌&&◌, ◌||◌, not, Bool, true, false, List, map, replicate, if◌then◌else◌, slice_index_or, bit_or}
use Rattle.std.specs.List.{range_with_len}
use Rattle.card_code.specs.Rows.{passing_place}
use Rattle.card_code.specs.declared.row.Row.{Row as CardRow}
use Rattle.hubs.specs.HubTable.Ranges.{is_within}
use Rattle.hubs.specs.declared.hub.Hub.{Hub}
use Rattle.hubs.specs.declared.hub.Hub.TheVariants.{CX, CA, CB}
use Rattle.net.specs.declared.cycle.Cycle.{Cycle}
use Rattle.net.specs.declared.cycle.Cycle.TheVariants.{Card}
use Rattle.net.specs.declared.cycle.Point.{Point}
use Rattle.net.specs.declared.cycle.Point.TheVariants.{Row, K}

-- What was collected since the last end of a cycle: for each entry, CA.1 to CA.30 and CB.1 to CB.30, the set of the rows at whose points
-- it was impulsed. A set is a number: bit r tells of the row at place r among the points.
pub record Compared : Type 0 where
  pub first : List ℕ
  pub second : List ℕ

-- nothing was collected
abbrev pub comparing_at_start : Compared
comparing_at_start = record { first = replicate 30 0; second = replicate 30 0 }

-- a set after the point of the row at a place, by whether its entry is impulsed there
abbrev pub set_after_point : ℕ → Bool → ℕ → ℕ
set_after_point place is_impulsed set = bit_or set (if is_impulsed then 2 ^ place else 0)

-- the sets of thirty entries after that point, by whether the entry with a number is impulsed there
abbrev pub after_row : ℕ → (ℕ → Bool) → List ℕ → List ℕ
after_row place is_impulsed sets =
    map (λ k. set_after_point place (is_impulsed (suc k)) (slice_index_or sets k 0)) (range_with_len 0 30)

-- whether two answers are unlike
abbrev pub are_unlike : Bool → Bool → Bool
are_unlike true other = not other
are_unlike false other = other

-- whether the sets at a place differ
abbrev pub differ_at : Compared → ℕ → Bool
differ_at compared k = not (slice_index_or compared.first k 0 == slice_index_or compared.second k 0)

-- whether the two sets of a position differ
abbrev pub differs : Compared → ℕ → Bool
differs compared p = is_within p 30 && differ_at compared (p - 1)

-- the exits that emit where positions differ
abbrev pub differences_emit : Compared → Hub → Bool
differences_emit compared (CX position) = differs compared position
differences_emit compared other = false

-- what comparing emits
abbrev pub comparing_emits : Compared → Cycle → Point → Hub → Bool
comparing_emits compared Card K hub = differences_emit compared hub
comparing_emits compared cycle point hub = false

-- what comparing has collected after a point
abbrev pub comparing_sensed : Compared → Cycle → Point → (Hub → Bool) → Compared
comparing_sensed compared Card (Row row) picture = record {
  first = after_row (passing_place row) (λ p. picture (CA p)) compared.first;
  second = after_row (passing_place row) (λ p. picture (CB p)) compared.second;
}
comparing_sensed compared cycle point picture = compared

-- In these pictures no entry of comparing is impulsed at a row.
abbrev pub HaveNoEntries : (Point → Hub → Bool) → Type 0
HaveNoEntries pictures = (row : CardRow) (p : ℕ) → (pictures (Row row) (CA p) || pictures (Row row) (CB p)) ≡ false

-- every end of a cycle makes comparing forget
abbrev pub comparing_ended : Compared → Cycle → Compared
comparing_ended compared cycle = comparing_at_start

-- the number of comparing among the units
abbrev pub comparing_number : ℕ
comparing_number = 2
