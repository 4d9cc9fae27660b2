use Rattle.hubs.specs.declared.hub.Hub.TheVariants.{PX, RO}
use Rattle.std.proofs.lemmas.Result.{on_ok_weaker}
use Rattle.wiring_lines.proofs.LineWires.Steps.{adds-both, adds-by}
use Rattle.wiring_totals.specs.HelperCounters.{ControlWires}
use Rattle.wiring_totals.proofs.total.wire_read_out.Goals as goal

pub returns : goal.returns
returns c =
    on_ok_weaker c.wire_total_digits.result
    (adds-both (adds-by (λ n. ControlWires (PX n 3) RO c.args.counter) c.in_ok-wire_controls.ensures c.number.ensures))
    c.wire_total_digits.ensures
