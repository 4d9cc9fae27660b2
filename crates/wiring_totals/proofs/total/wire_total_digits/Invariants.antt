use Rattle.hubs.specs.declared.hub.Hub.TheVariants.{W}
use Rattle.std.proofs.Common.{◌+◌}
use Rattle.wiring_lines.specs.Below.wiring_table.Figures.{digit_wheel}
use Rattle.wiring_lines.specs.LineWires.HelperAdds.{Adds, One, Upto}
use Rattle.wiring_totals.specs.HelperCounters.{exit_of, place_of}
use Rattle.wiring_totals.proofs.total.wire_total_digits.Given as goal

abbrev pub invariant-loop-place : goal.invariant-loop-place
invariant-loop-place l =
    Adds (Upto l.place (λ place. One (exit_of (place_of l.counter (place + 1))) (W (digit_wheel l.total.wheel l.total.digits l.decimals (place + 1))))) l.initial.setup l.setup
