-- A cycle of the machine. At each of its fourteen points all units emit by their states, wires and closed contacts make of that
-- the picture of the impulsed hubs, and all units sense it. After the last point every unit ends the cycle.
use Rattle.std.specs.Prelude.{◌≡◌, ℕ, zero, suc, Bool, List}
pub use Rattle.page_text.specs.PlacedLines.Lines.{line_at}
use Rattle.page_text.specs.declared.placed_lines.placed_line.PlacedLine.{PlacedLine}
use Rattle.hubs.specs.SetupsWords.Wiring.{Wiring}
use Rattle.hubs.specs.declared.hub.Hub.{Hub}
pub use Rattle.net.specs.Cycles.{point_at}
use Rattle.net.specs.Impulsed.{IsPicture}
use Rattle.net.specs.declared.cycle.Cycle.{Cycle}
use Rattle.net.specs.declared.cycle.Point.{Point}
use Rattle.machine.specs.Machine.{MachineState, emits, closes, sensed, ended}

-- One point: there is the picture of what the units emit by the states before it, and they sense that picture.
pub record PointStep (wiring : Wiring) (cycle : Cycle) (point : Point) (old new : MachineState) : Type 0 where
  pub picture : Hub → Bool
  pub is_picture : IsPicture wiring (emits old cycle point) (closes old cycle point) picture
  pub is_new : new ≡ sensed old cycle point picture

-- the machine before the point with this place is reached from that before the cycle by the points in between
unfoldable pub Reached : Wiring → Cycle → ℕ → MachineState → MachineState → Type 0
Reached wiring cycle zero old now = now ≡ old
Reached wiring cycle (suc place) old now =
    (mid : MachineState) × Reached wiring cycle place old mid × PointStep wiring cycle (point_at place) mid now

-- A cycle: its fourteen points, and then its end.
pub record CycleRun (wiring : Wiring) (cycle : Cycle) (old new : MachineState) : Type 0 where
  pub at_end : MachineState
  pub reached : Reached wiring cycle 14 old at_end
  pub is_new : new ≡ ended at_end cycle

-- the line that the cycle that ended last placed, if it placed one
abbrev pub line_of : MachineState → List PlacedLine
line_of machine = line_at machine.carriage.printed machine.wheels.line
