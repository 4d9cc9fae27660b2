use Rattle.std.proofs.Common.{arith, refl}
use Rattle.wiring_lines.proofs.LineWires.Steps.{one-as, upto-all, upto-more, upto-none}
use Rattle.wiring_totals.proofs.CounterHubs.{same-entry}
use Rattle.wiring_totals.proofs.entry.wire_entry_digits.Goals as goal

pub loop-place-init : goal.loop-place-init
loop-place-init c = upto-none

pub loop-place-preserved : goal.loop-place-preserved
loop-place-preserved c = upto-more c.loop-place.invariant (one-as c.in_ok-connect.ensures refl (same-entry c.place_of-place.ensures.value))

pub returns : goal.returns
returns c = upto-all c.loop-place.invariant (omega arith)
