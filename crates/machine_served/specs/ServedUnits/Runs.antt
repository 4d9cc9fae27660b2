-- A run of the machine over a deck in which the units run ahead of one another in each cycle, by whatever schedule.
use Rattle.std.specs.Prelude.{◌≡◌, ℕ, List, map}
use Rattle.machine.specs.Machine.{MachineState}
use Rattle.machine.specs.Runs.{RunsBy, run_at_start}
use Rattle.net.specs.declared.cycle.Cycle.{Cycle}
use Rattle.page_text.specs.declared.placed_lines.placed_line.PlacedLine.{PlacedLine}
use Rattle.machine_served.specs.ServedWords.Laws.{GoesBySteps}
use Rattle.machine_served.specs.ServedWords.Orders.{unit_count}
use Rattle.machine_served.specs.ServedUnits.AnyUnit.{any_ended, any_kind, unit_at, unit_numbers, units_of}
use Rattle.hubs.specs.SetupsWords.Wiring.{Wiring}

-- A cycle by a schedule: its steps are taken one after another until all units have sensed at the closing point, and then each unit
-- ends the cycle.
pub record ServedCycle (wiring : Wiring) (cycle : Cycle) (old new : MachineState) : Type 0 where
  pub served : GoesBySteps any_kind wiring cycle unit_count (unit_at old)
  pub ended : units_of new ≡ map (λ unit. any_ended (served.last.units unit) cycle) unit_numbers

-- the lines of a served run over a deck
abbrev pub ServedLines : Wiring → List (List ℕ) → List PlacedLine → Type 0
ServedLines wiring cards lines =
    (cycles : List Cycle) × RunsBy (ServedCycle wiring) cycles (run_at_start wiring cards) lines
