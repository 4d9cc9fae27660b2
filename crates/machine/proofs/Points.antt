-- Cycles, point by point.
use Rattle.std.proofs.Common.{ℕ, ◌+◌, ◌<◌, get_or, refl, subst, sym, add-one}
use Rattle.std.proofs.lemmas.List.{get_or_default}
use Rattle.hubs.specs.SetupsWords.Wiring.{Wiring}
use Rattle.net.specs.Cycles.{points}
use Rattle.net.specs.declared.cycle.Cycle.{Cycle}
use Rattle.net.specs.declared.cycle.Point.{Point}
use Rattle.net.specs.declared.cycle.Point.TheVariants.{K}
use Rattle.machine.specs.Cycles.{PointStep, Reached, point_at}
use Rattle.machine.specs.Ends.{SensesSome}
use Rattle.machine.specs.Machine.{MachineState, sensed}
use Rattle.machine.specs.Steady.{AreSteady}
use Rattle.machine.specs.declared.closed.Closed.{Closed}
use Rattle.machine.proofs.ClosedContacts.{AreSteady-sensed}
use Rattle.machine.specs.Keeps.{Keeps}
use Rattle.machine.proofs.Keeps.{Keeps-none, Keeps-both, sensed-keeps}

-- before the first point the machine is as the cycle found it
pub Reached-none : (wiring : Wiring) (cycle : Cycle) (machine : MachineState) → Reached wiring cycle 0 machine machine
unfolding Reached
Reached-none wiring cycle machine = refl

-- one point more
pub Reached-more : (wiring : Wiring) (cycle : Cycle) (old mid now : MachineState) (place : ℕ)
    → Reached wiring cycle place old mid → PointStep wiring cycle (point_at place) mid now
    → Reached wiring cycle (place + 1) old now
unfolding Reached
Reached-more wiring cycle old mid now place reached step = rw add-one (mid, reached, step)

-- a point of the list of points is the one with its place, whatever stands past the end
pub PointStep-at : (wiring : Wiring) (cycle : Cycle) (mid now : MachineState) (place : ℕ) (past : Point)
    → place < 14 → PointStep wiring cycle (get_or points place past) mid now → PointStep wiring cycle (point_at place) mid now
PointStep-at wiring cycle mid now place past before =
    subst (λ (point : Point). PointStep wiring cycle point mid now) (get_or_default points place past K before)

-- one point more leaves what points leave
pub Keeps-more : (cycle : Cycle) (point : Point) (old mid now : MachineState)
    → Keeps cycle old mid → SensesSome cycle point mid now → Keeps cycle old now
Keeps-more cycle point old mid now kept senses =
    Keeps-both cycle old mid now kept
    (Keeps-both cycle mid (sensed mid cycle point senses.picture) now (sensed-keeps mid cycle point senses.picture)
    (Keeps-none cycle (sensed mid cycle point senses.picture) now senses.is_new))

pub AreSteady-more : (cycle : Cycle) (closed : Closed) (point : Point) (mid now : MachineState)
    → AreSteady cycle closed mid → SensesSome cycle point mid now → AreSteady cycle closed now
AreSteady-more cycle closed point mid now steady senses =
    subst (λ (m : MachineState). AreSteady cycle closed m) (sym senses.is_new)
    (AreSteady-sensed cycle closed mid point senses.picture steady)
