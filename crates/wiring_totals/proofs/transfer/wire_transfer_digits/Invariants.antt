use Rattle.std.proofs.Common.{◌+◌}
use Rattle.wiring_lines.specs.LineWires.HelperAdds.{Adds, One, Upto}
use Rattle.wiring_totals.specs.HelperCounters.{entry_of, exit_of, place_of}
use Rattle.wiring_totals.proofs.transfer.wire_transfer_digits.Given as goal

abbrev pub invariant-loop-place : goal.invariant-loop-place
invariant-loop-place l =
    Adds (Upto l.place (λ place. One (exit_of (place_of l.counter (place + 1))) (entry_of (place_of l.higher (place + 1))))) l.initial.setup l.setup
