-- A cycle in which all units act at once: at each of its fourteen points all emit by the states before it, and all sense the
-- picture of that.
use Rattle.std.specs.Prelude.{◌≡◌, ℕ, ◌+◌, ◌<◌, Bool}
use Rattle.hubs.specs.declared.hub.Hub.{Hub}
use Rattle.hubs.specs.SetupsWords.Wiring.{Wiring}
use Rattle.net.specs.Cycles.{point_at}
use Rattle.net.specs.Impulsed.{IsPicture}
use Rattle.net.specs.declared.cycle.Cycle.{Cycle}
use Rattle.net.specs.Units.{Kind}
use Rattle.machine_served.specs.ServedWords.Units.{IsUnit, AreNumbered, all_emit, all_close}

-- The states of the units through a cycle: before the point with each place, 0 to 13, and at 14 after the closing point.
pub record IsAtOnce {State : Type 0} (kind : Kind State) (wiring : Wiring) (cycle : Cycle) (count : ℕ)
    (states : ℕ → ℕ → State) : Type 0 where
  pub numbered : AreNumbered kind count (states 0)
  pub pictures : ℕ → Hub → Bool
  pub are_pictures :
      (place : ℕ) → place < 14
      → IsPicture wiring (all_emit kind count (states place) cycle (point_at place))
      (all_close kind count (states place) cycle (point_at place)) (pictures place)
  pub sensed :
      (place unit : ℕ) → place < 14 → IsUnit count unit
      → states (place + 1) unit ≡ kind.sensed (states place unit) cycle (point_at place) (pictures place)
