-- Helper words: what a cycle leaves of the cards and of what the cycle order hangs on, whatever the wires are.
use Rattle.std.specs.Prelude.{◌≡◌, Bool, true, false, Some}
use Rattle.hubs.specs.declared.hub.Hub.{Hub}
use Rattle.net.specs.declared.cycle.Cycle.{Cycle}
use Rattle.net.specs.declared.cycle.Cycle.TheVariants.{RunIn, Card, Prog, Head}
use Rattle.net.specs.declared.cycle.Point.{Point}
use Rattle.program_unit.specs.Program.{stage_ended}
use Rattle.machine.specs.Feeds.{Fed, due_in, taken}
use Rattle.machine.specs.Machine.{MachineState, sensed}

-- whether a cycle is a card cycle
abbrev pub is_card : Cycle → Bool
is_card RunIn = false
is_card Card = true
is_card (Prog level ordinal) = false
is_card (Head heading) = false

-- A point: some picture was sensed.
pub record SensesSome (cycle : Cycle) (point : Point) (old new : MachineState) : Type 0 where
  pub picture : Hub → Bool
  pub is_new : new ≡ sensed old cycle point picture

-- A cycle: the cards stay, and the program unit goes on.
pub record EndsCycle (cycle : Cycle) (old new : MachineState) : Type 0 where
  pub stations : new.stations ≡ old.stations
  pub stage : new.program.stage ≡ stage_ended old.program.stage cycle
  pub highest : is_card cycle ≡ false → new.program.highest ≡ old.program.highest

-- A cycle of a feed: it is due, and the program unit and what is fed go on.
pub record GoesOn (cycle : Cycle) (old new : Fed) : Type 0 where
  pub due : due_in old ≡ Some cycle
  pub ends : EndsCycle cycle (taken cycle old).machine new.machine
  pub waits : new.waits ≡ (taken cycle old).waits
