use Rattle.cli_matching.proofs.Telling.{match_memory, match_output, match_status, match_unmatched}
use Rattle.cli_matching.proofs.serving.match_to_end.Goals as goal

pub returns-in-Err-clause-unmatched : goal.returns-in-Err-clause-unmatched
returns-in-Err-clause-unmatched g c =
    match_unmatched c.args.telling c.args.chart.now c.args.wiring.now c.in-Err.told _ _ _ c.tell_unmatched.result.status c.tell_unmatched.result.is_told
    (g.V.Write.contents c.args.faults.now) (g.V.Write.contents c.tell_unmatched.new.faults) c.in-Err.ensures.stopped
    c.tell_unmatched.ensures.status c.tell_unmatched.ensures.line

pub returns-in-Err-clause-output : goal.returns-in-Err-clause-output
returns-in-Err-clause-output g c =
    match_output c.args.telling c.args.chart.now c.args.wiring.now c.in-Err.told _ _ _ c.tell_unmatched.result.status c.tell_unmatched.result.is_told
    (g.V.Write.contents c.args.faults.now) (g.V.Write.contents c.tell_unmatched.new.faults) c.in-Err.ensures.stopped
    c.tell_unmatched.ensures.status c.tell_unmatched.ensures.line

pub returns-in-Err-clause-memory : goal.returns-in-Err-clause-memory
returns-in-Err-clause-memory g c =
    match_memory c.args.telling c.args.chart.now c.args.wiring.now c.in-Err.told _ _ _ c.tell_unmatched.result.status c.tell_unmatched.result.is_told
    (g.V.Write.contents c.args.faults.now) (g.V.Write.contents c.tell_unmatched.new.faults) c.in-Err.ensures.stopped
    c.tell_unmatched.ensures.status c.tell_unmatched.ensures.line

pub returns-in-Err-clause-statuses : goal.returns-in-Err-clause-statuses
returns-in-Err-clause-statuses g c =
    match_status c.args.telling c.args.chart.now c.args.wiring.now c.in-Err.told _ _ _ c.tell_unmatched.result.status c.tell_unmatched.result.is_told
    (g.V.Write.contents c.args.faults.now) (g.V.Write.contents c.tell_unmatched.new.faults) c.in-Err.ensures.stopped
    c.tell_unmatched.ensures.status c.tell_unmatched.ensures.line
