-- A hole that is told for an entry sends an impulse there.
use Rattle.std.specs.Prelude.{◌≡◌, ℕ, List, Some}
use Rattle.card_code.specs.declared.row.Row.{Row as CardRow}
use Rattle.hubs.specs.declared.hub.Hub.{Hub}
use Rattle.explain_ledgers.specs.LedgersWords.Ledgers.{card_in, ready}
use Rattle.explain_ledgers.specs.LedgersWords.Running.{HasCycle}
use Rattle.machine.specs.Cycles.{Reached}
use Rattle.machine.specs.Machine.{MachineState, closes, emits}
use Rattle.net.specs.Impulsed.{IsImpulsed}
use Rattle.net.specs.declared.cycle.Point.TheVariants.{Row}
use Rattle.explain_origins.specs.Holes.{hole_in_cycle}
use Rattle.explain_origins.specs.declared.holes.Hole.{Hole}
use Rattle.hubs.specs.SetupsWords.Wiring.{Wiring}

-- In a cycle of a run, at any of its points, the machine impulses an entry when a row passes, if a hole is told for the row and the entry by
-- how many cards were read.
abbrev pub HolesImpulseEntries : Type 0
HolesImpulseEntries =
    (wiring : Wiring) (deck : List (List ℕ)) (passed : ℕ) (has : HasCycle wiring deck passed) (row : CardRow) (entry : Hub) (hole : Hole)
    (points : ℕ) (now : MachineState)
    → hole_in_cycle wiring deck has.cycle (card_in has.cycle has.along.card) row entry ≡ Some hole
    → Reached wiring has.cycle points (ready has.cycle has.along) now
    → IsImpulsed wiring (emits now has.cycle (Row row)) (closes now has.cycle (Row row)) entry
