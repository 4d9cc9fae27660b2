use Rattle.hubs.specs.declared.hub.Hub.TheVariants.{SE, SR, SX, W}
use Rattle.std.proofs.Common.{◌+◌}
use Rattle.wiring_lines.specs.LineWires.HelperAdds.{Adds, Both, One, Upto}
use Rattle.wiring_totals.proofs.total_text.wire_stored.Given as goal

abbrev pub invariant-loop-j : goal.invariant-loop-j
invariant-loop-j l =
    Adds (Upto l.j (λ j. Both (One (SR (l.fn.field.first + j)) (SE l.unit (j + 1))) (One (SX l.unit (j + 1)) (W (l.fn.wheel + j))))) l.initial.setup l.setup
