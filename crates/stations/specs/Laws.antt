-- A law of comparing.
use Rattle.std.specs.Prelude.{◌≡◌, ℕ, ◌&&◌, Bool, List, [], ◌∷◌}
use Rattle.std.specs.List.{list_any}
use Rattle.card_code.specs.Rows.{rows}
use Rattle.card_code.specs.declared.row.Row.{Row as CardRow}
use Rattle.hubs.specs.HubTable.Ranges.{is_within}
use Rattle.hubs.specs.declared.hub.Hub.{Hub}
use Rattle.hubs.specs.declared.hub.Hub.TheVariants.{CX, CA, CB}
use Rattle.net.specs.declared.cycle.Cycle.TheVariants.{Card}
use Rattle.net.specs.declared.cycle.Point.TheVariants.{Row, K}
use Rattle.stations.specs.Comparing.{Compared, comparing_at_start, comparing_emits, comparing_sensed, are_unlike}

-- comparing after the points of some rows of a card cycle, one after the other, each with its picture
abbrev pub compared_after : List CardRow → (CardRow → Hub → Bool) → Compared → Compared
compared_after [] pictures compared = compared
compared_after (row ∷ others) pictures compared =
    compared_after others pictures (comparing_sensed compared Card (Row row) (pictures row))

-- At the closing point of a card cycle a position emits exactly where at some row one of its entries was impulsed and the
-- other was not.
abbrev pub ComparingTellsDifferences : Type 0
ComparingTellsDifferences =
    (pictures : CardRow → Hub → Bool) (p : ℕ)
    → comparing_emits (compared_after rows pictures comparing_at_start) Card K (CX p)
    ≡ (is_within p 30 && list_any (λ row. are_unlike (pictures row (CA p)) (pictures row (CB p))) rows)
