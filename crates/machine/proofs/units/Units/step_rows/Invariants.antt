use Rattle.hubs.specs.SetupsWords.Wiring.{Wiring}
use Rattle.net.specs.Nets.{IsNetOf}
use Rattle.machine.specs.Cycles.{Reached}
use Rattle.machine.specs.Keeps.{Keeps}
use Rattle.machine.specs.Machine.{MachineState}
use Rattle.machine.specs.Steady.{AreSteady}
use Rattle.machine.proofs.units.Units.step_rows.Given as goal

-- the points so far are run
abbrev pub invariant-loop-place : goal.invariant-loop-place
invariant-loop-place l = record {
  reached :
      (wiring : Wiring) → IsNetOf wiring l.net → (start : MachineState) → Reached wiring l.cycle 1 start l.initial.self
      → Reached wiring l.cycle l.place start l.self;
  keeps : Keeps l.cycle l.initial.self l.self;
  steady : AreSteady l.cycle l.closed l.self;
}
