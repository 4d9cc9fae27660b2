use Rattle.std.proofs.Common.{◌+◌, ◌-◌}
use Rattle.wiring_table.specs.Figures.{digit_wheel}
use Rattle.wiring_lines.specs.LineWires.HelperAdds.{Adds, Upto}
use Rattle.wiring_lines.specs.LineWires.HelperRows.{DigitWires}
use Rattle.wiring_lines.proofs.line_wires.detail.wire_digits.Given as goal

abbrev pub invariant-loop-place : goal.invariant-loop-place
invariant-loop-place l =
    Adds (Upto l.place (λ place. DigitWires l.plan l.line l.sign (l.end - (place + 1)) (digit_wheel l.wheel l.digits l.decimals (place + 1)))) l.initial.setup l.setup
