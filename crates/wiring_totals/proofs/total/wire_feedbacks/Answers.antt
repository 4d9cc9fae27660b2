use Rattle.std.proofs.lemmas.Result.{on_ok_weaker}
use Rattle.wiring_totals.specs.HelperTotalRows.{FeedbackWires}
use Rattle.wiring_totals.proofs.CounterHubs.{adds-pair}
use Rattle.wiring_totals.proofs.total.wire_feedbacks.Goals as goal

pub returns-in_ok-wire_feedback-in-Coupled : goal.returns-in_ok-wire_feedback-in-Coupled
returns-in_ok-wire_feedback-in-Coupled c =
    on_ok_weaker c.wire_feedback-in-Coupled-2.result
    (adds-pair FeedbackWires c.in-Coupled.is c.panel_group-in-Coupled.ensures c.panel_group-in-Coupled-2.ensures
    c.in_ok-wire_feedback-in-Coupled.ensures)
    c.wire_feedback-in-Coupled-2.ensures
