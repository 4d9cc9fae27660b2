use Rattle.hubs.specs.declared.hub.Hub.TheVariants.{GE, GX}
use Rattle.std.proofs.Common.{◌+◌}
use Rattle.wiring_lines.specs.LineWires.HelperAdds.{Adds, One, Upto}
use Rattle.wiring_totals.proofs.total.wire_feedback.Given as goal

abbrev pub invariant-loop-place : goal.invariant-loop-place
invariant-loop-place l =
    Adds (Upto l.place (λ place. One (GX l.group (place + 1)) (GE l.group (place + 1)))) l.initial.setup l.setup
