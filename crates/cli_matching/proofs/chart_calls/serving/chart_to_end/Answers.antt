use Rattle.cli_matching.proofs.ChartCalls.Telling.{chart_memory, chart_output, chart_status, chart_unread}
use Rattle.cli_matching.proofs.chart_calls.serving.chart_to_end.Goals as goal

pub returns-in-Err-clause-unread : goal.returns-in-Err-clause-unread
returns-in-Err-clause-unread g c =
    chart_unread c.args.wiring.now c.in-Err.told _ _ _ c.tell_unmatched.result.status c.tell_unmatched.result.is_told
    (g.V.Write.contents c.args.faults.now) (g.V.Write.contents c.tell_unmatched.new.faults) c.in-Err.ensures.stopped
    c.tell_unmatched.ensures.status c.tell_unmatched.ensures.line

pub returns-in-Err-clause-output : goal.returns-in-Err-clause-output
returns-in-Err-clause-output g c =
    chart_output c.args.wiring.now c.in-Err.told _ _ _ c.tell_unmatched.result.status c.tell_unmatched.result.is_told
    (g.V.Write.contents c.args.faults.now) (g.V.Write.contents c.tell_unmatched.new.faults) c.in-Err.ensures.stopped
    c.tell_unmatched.ensures.status c.tell_unmatched.ensures.line

pub returns-in-Err-clause-memory : goal.returns-in-Err-clause-memory
returns-in-Err-clause-memory g c =
    chart_memory c.args.wiring.now c.in-Err.told _ _ _ c.tell_unmatched.result.status c.tell_unmatched.result.is_told
    (g.V.Write.contents c.args.faults.now) (g.V.Write.contents c.tell_unmatched.new.faults) c.in-Err.ensures.stopped
    c.tell_unmatched.ensures.status c.tell_unmatched.ensures.line

pub returns-in-Err-clause-statuses : goal.returns-in-Err-clause-statuses
returns-in-Err-clause-statuses g c =
    chart_status c.args.wiring.now c.in-Err.told _ _ _ c.tell_unmatched.result.status c.tell_unmatched.result.is_told
    (g.V.Write.contents c.args.faults.now) (g.V.Write.contents c.tell_unmatched.new.faults) c.in-Err.ensures.stopped
    c.tell_unmatched.ensures.status c.tell_unmatched.ensures.line
