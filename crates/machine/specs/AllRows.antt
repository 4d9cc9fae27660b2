-- Helper words: the points of the rows, all at once.
use Rattle.hubs.specs.SetupsWords.Wiring.{Wiring}
use Rattle.net.specs.declared.cycle.Cycle.{Cycle}
use Rattle.machine.specs.Cycles.{Reached}
use Rattle.machine.specs.Machine.{MachineState}

-- The points of the rows are run: where the control point reached the old machine, the last row reaches the new one.
abbrev pub RunsRows : Wiring → Cycle → MachineState → MachineState → Type 0
RunsRows wiring cycle old new =
    (start : MachineState) → Reached wiring cycle 1 start old → Reached wiring cycle 13 start new
