-- What the pilots sense at the rows changes nothing of which of their contacts are closed there: a proof for the unit's law.
use Rattle.std.specs.Prelude.{◌≡◌, Bool, refl}
use Rattle.card_code.specs.declared.row.Row.{Row as CardRow}
use Rattle.hubs.specs.declared.hub.Hub.{Hub}
use Rattle.net.specs.declared.cycle.Cycle.{Cycle}
use Rattle.net.specs.declared.cycle.Point.TheVariants.{Row}
use Rattle.selectors.specs.Pilots.{PilotStates, pilots_closes, pilots_sensed}

pub pilots_close_steadily :
    (pilots : PilotStates) (cycle : Cycle) (at other : CardRow) (picture : Hub → Bool) (hub : Hub)
    → pilots_closes (pilots_sensed pilots cycle (Row at) picture) cycle (Row other) hub ≡ pilots_closes pilots cycle (Row other) hub
pilots_close_steadily pilots cycle at other picture hub = refl
