use Rattle.std.proofs.Common.{arith}
use Rattle.wiring_lines.proofs.LineWires.Steps.{one-as, upto-all, upto-more, upto-none}
use Rattle.wiring_totals.proofs.CounterHubs.{same-entry, same-exit}
use Rattle.wiring_totals.proofs.transfer.wire_transfer_digits.Goals as goal

pub loop-place-init : goal.loop-place-init
loop-place-init c = upto-none

pub loop-place-preserved : goal.loop-place-preserved
loop-place-preserved c =
    upto-more c.loop-place.invariant
    (one-as c.in_ok-connect.ensures (same-exit c.place_of-place.ensures.value) (same-entry c.place_of-upper_place.ensures.value))

pub returns : goal.returns
returns c = upto-all c.loop-place.invariant (omega arith)
