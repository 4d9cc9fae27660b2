use Rattle.hubs.specs.declared.hub.Hub.TheVariants.{SR, W}
use Rattle.std.proofs.Common.{◌+◌}
use Rattle.wiring_lines.specs.LineWires.HelperAdds.{Adds, One, Upto}
use Rattle.wiring_lines.proofs.line_wires.detail.wire_text.Given as goal

abbrev pub invariant-loop-j : goal.invariant-loop-j
invariant-loop-j l = Adds (Upto l.j (λ j. One (SR (l.fn.field.first + j)) (W (l.fn.wheel + j)))) l.initial.setup l.setup
