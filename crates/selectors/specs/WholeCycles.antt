-- The pilots through a cycle: they sense the picture of each point in turn, and then end the cycle.
use Rattle.std.specs.Prelude.{◌≡◌, ℕ, Bool, false}
use Rattle.card_code.specs.declared.row.Row.TheVariants.{Eleven}
use Rattle.hubs.specs.declared.hub.Hub.{Hub}
use Rattle.hubs.specs.declared.hub.Hub.TheVariants.{PIX}
use Rattle.net.specs.WholeCycles as units
use Rattle.net.specs.declared.cycle.Cycle.{Cycle}
use Rattle.net.specs.declared.cycle.Point.{Point}
use Rattle.net.specs.declared.cycle.Point.TheVariants.{Row}
use Rattle.selectors.specs.Pilots.{PilotStates, pilots_sensed, pilots_ended}

-- what they become by a whole cycle
abbrev pub after_cycle : Cycle → (Point → Hub → Bool) → PilotStates → PilotStates
after_cycle cycle pictures pilots = units.after_cycle pilots_sensed pilots_ended cycle pictures pilots

-- in these pictures no pickup is impulsed at the point at which they are sensed
abbrev pub HaveNoPickups : (Point → Hub → Bool) → Type 0
HaveNoPickups pictures = (pilot : ℕ) → pictures (Row Eleven) (PIX pilot) ≡ false
