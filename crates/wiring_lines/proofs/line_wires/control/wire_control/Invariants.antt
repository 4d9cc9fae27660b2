use Rattle.std.proofs.Common.{◌+◌}
use Rattle.wiring_lines.specs.LineWires.HelperAdds.{Adds, Upto}
use Rattle.wiring_lines.specs.LineWires.HelperRows.{ComparedColumn}
use Rattle.wiring_lines.proofs.line_wires.control.wire_control.Given as goal

abbrev pub invariant-loop-j : goal.invariant-loop-j
invariant-loop-j l =
    Adds (Upto l.j (λ j. ComparedColumn l.plan l.level l.line (l.first + j))) l.initial.setup l.setup
