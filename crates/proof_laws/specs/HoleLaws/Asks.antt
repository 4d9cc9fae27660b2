-- Wires from the exit that emits at the control point of a cycle.
use Rattle.std.specs.Prelude.{◌≡◌, ℕ, List, true}
use Rattle.hubs.specs.declared.hub.Hub.{Hub}
use Rattle.explain_ledgers.specs.LedgersWords.Ledgers.{ready}
use Rattle.explain_ledgers.specs.LedgersWords.Running.{HasCycle}
use Rattle.machine.specs.Machine.{closes, emits}
use Rattle.net.specs.Impulsed.{IsImpulsed}
use Rattle.net.specs.declared.cycle.Point.TheVariants.{C}
use Rattle.explain_origins.specs.Asks.{asks}
use Rattle.hubs.specs.SetupsWords.Wiring.{Wiring}

-- In a cycle of a run the machine impulses an entry at the control point, if it is told that the cycle asks there.
abbrev pub CyclesImpulseEntries : Type 0
CyclesImpulseEntries =
    (wiring : Wiring) (deck : List (List ℕ)) (passed : ℕ) (has : HasCycle wiring deck passed) (entry : Hub)
    → asks wiring has.cycle entry ≡ true
    → IsImpulsed wiring (emits (ready has.cycle has.along) has.cycle C) (closes (ready has.cycle has.along) has.cycle C) entry
