use Rattle.std.proofs.Common.{◌≡◌, ◌||◌}
use Rattle.hubs.specs.declared.hub.Hub.{Hub}
use Rattle.net.specs.HubSets.{has_hub}
use Rattle.machine.specs.Marked.{any_marked}
use Rattle.machine.proofs.marked.emit_marked.Given as goal

-- what stands, with what the units of the marks left emit, is all
abbrev pub invariant-loop-place : goal.invariant-loop-place
invariant-loop-place g l =
    (exit : Hub)
    → (has_hub l.exits exit || any_marked l.left 0 (λ unit. g.U.Unit.emits unit l.cycle l.point exit) l.units)
    ≡ (has_hub l.fn.exits exit || any_marked l.marks 0 (λ unit. g.U.Unit.emits unit l.cycle l.point exit) l.units)

abbrev pub decreases-loop-place : goal.decreases-loop-place
decreases-loop-place g l = l.left
