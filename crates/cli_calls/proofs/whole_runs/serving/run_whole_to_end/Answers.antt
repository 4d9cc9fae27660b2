use Rattle.std.proofs.Common.{◌∙◌, inr, sym}
use Rattle.cli_calls.proofs.WholeRuns.Printing.{whole_memory, whole_status, whole_unprinted}
use Rattle.cli_calls.proofs.whole_runs.serving.run_whole_to_end.Goals as goal

pub returns-in-Err-clause-unprinted : goal.returns-in-Err-clause-unprinted
returns-in-Err-clause-unprinted g c = λ three.
    whole_unprinted c.args.chart.now _ _ c.args.pages c.in-Err.told _ c.in-Err.ensures.stopped
    (sym c.tell_unexplained.ensures.status ∙ three)

pub returns-in-Err-clause-memory : goal.returns-in-Err-clause-memory
returns-in-Err-clause-memory g c =
    whole_memory c.args.chart.now _ _ c.args.pages c.in-Err.told _ c.tell_unexplained.result.status
    c.tell_unexplained.result.is_told (g.V.Write.contents c.args.faults.now) (g.V.Write.contents c.tell_unexplained.new.faults)
    c.tell_unexplained.ensures.status c.tell_unexplained.ensures.line c.in-Err.ensures.stopped

pub returns-in-Err-clause-statuses : goal.returns-in-Err-clause-statuses
returns-in-Err-clause-statuses g c =
    inr (whole_status c.args.chart.now _ _ c.args.pages c.in-Err.told _ c.tell_unexplained.result.status
    c.tell_unexplained.result.is_told (g.V.Write.contents c.args.faults.now) (g.V.Write.contents c.tell_unexplained.new.faults)
    c.tell_unexplained.ensures.status c.tell_unexplained.ensures.line c.in-Err.ensures.stopped)
