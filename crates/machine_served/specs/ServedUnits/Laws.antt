-- Served runs print what the machine prints.
use Rattle.std.specs.Prelude.{◌↔◌, ℕ, List}
use Rattle.machine.specs.Cycles.{CycleRun}
use Rattle.machine.specs.Machine.{MachineState}
use Rattle.machine.specs.Runs.{MachineLines}
use Rattle.net.specs.declared.cycle.Cycle.{Cycle}
use Rattle.page_text.specs.declared.placed_lines.placed_line.PlacedLine.{PlacedLine}
use Rattle.machine_served.specs.ServedUnits.AnyUnit.{AreInOrder}
use Rattle.machine_served.specs.ServedUnits.Runs.{ServedCycle, ServedLines}
use Rattle.hubs.specs.SetupsWords.Wiring.{Wiring}

-- The cycles by schedules are the cycles of the machine in which all units act at once.
abbrev pub ServedCyclesAreCycles : Type 0
ServedCyclesAreCycles =
    (wiring : Wiring) (cycle : Cycle) (old new : MachineState)
    → AreInOrder old
    → ServedCycle wiring cycle old new ↔ CycleRun wiring cycle old new

-- The lines of a run by any schedules are those of the machine, and every run of the machine is one by schedules, whatever the
-- setup and the deck are.
abbrev pub ServedRunsPrintTheSame : Type 0
ServedRunsPrintTheSame =
    (wiring : Wiring) (cards : List (List ℕ)) (lines : List PlacedLine)
    → ServedLines wiring cards lines ↔ MachineLines wiring cards lines
