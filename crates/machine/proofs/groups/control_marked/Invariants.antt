use Rattle.std.proofs.Common.{◌≡◌, Bool}
use Rattle.counters.specs.Counters.{counter_sensed}
use Rattle.hubs.specs.declared.hub.Hub.{Hub}
use Rattle.hubs.specs.declared.hub.Hub.TheVariants.{PL}
use Rattle.net.specs.Orders.{IsRowOf}
use Rattle.net.specs.declared.cycle.Cycle.{Cycle}
use Rattle.net.specs.declared.cycle.Point.TheVariants.{C}
use Rattle.machine.specs.Marked.{marked_changed}
use Rattle.machine.proofs.groups.control_marked.Given as goal

-- with the marks left all is done
abbrev pub invariant-loop-place : goal.invariant-loop-place
invariant-loop-place l =
    (cycle : Cycle) (picture : Hub → Bool) → IsRowOf (PL (record { width = 3; number = 1 })) picture l.row
    → marked_changed l.left 0 (λ group. counter_sensed group cycle C picture) l.groups
    ≡ marked_changed l.marks 0 (λ group. counter_sensed group cycle C picture) l.fn.groups

abbrev pub decreases-loop-place : goal.decreases-loop-place
decreases-loop-place l = l.left
