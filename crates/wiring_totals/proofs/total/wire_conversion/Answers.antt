use Rattle.std.proofs.lemmas.Result.{on_ok_weaker}
use Rattle.wiring_lines.proofs.LineWires.Steps.{adds-both}
use Rattle.wiring_totals.proofs.total.wire_conversion.Goals as goal

pub returns : goal.returns
returns c =
    on_ok_weaker c.wire_feedbacks.result (λ last. adds-both c.in_ok-wire_ring.ensures (adds-both c.in_ok-wire_balance.ensures last))
    c.wire_feedbacks.ensures
