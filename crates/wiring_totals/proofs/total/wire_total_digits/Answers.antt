use Rattle.hubs.specs.declared.hub.Hub.TheVariants.{W}
use Rattle.std.proofs.Common.{ap, arith}
use Rattle.wiring_lines.proofs.LineWires.Steps.{one-as, upto-all, upto-more, upto-none}
use Rattle.wiring_totals.proofs.CounterHubs.{same-exit}
use Rattle.wiring_totals.proofs.total.wire_total_digits.Goals as goal

pub loop-place-init : goal.loop-place-init
loop-place-init c = upto-none

pub loop-place-preserved : goal.loop-place-preserved
loop-place-preserved c =
    upto-more c.loop-place.invariant
    (one-as c.in_ok-connect.ensures (same-exit c.place_of-place.ensures.value) (ap W c.digit_wheel-entry.ensures.value))

pub returns : goal.returns
returns c = upto-all c.loop-place.invariant (omega arith)
