use Rattle.hubs.specs.declared.hub.Hub.TheVariants.{SR}
use Rattle.std.proofs.Common.{◌+◌, ◌-◌}
use Rattle.wiring_lines.specs.LineWires.HelperAdds.{Adds, One, Upto}
use Rattle.wiring_totals.specs.HelperCounters.{entry_of, place_of}
use Rattle.wiring_totals.proofs.entry.wire_entry_digits.Given as goal

abbrev pub invariant-loop-place : goal.invariant-loop-place
invariant-loop-place l =
    Adds (Upto l.place (λ place. One (SR (l.fn.field.last + 1 - (place + 1))) (entry_of (place_of l.counter (place + 1))))) l.initial.setup l.setup
