use Rattle.std.proofs.Common.{◌∙◌, inr, sym}
use Rattle.cli_commands.proofs.CommandsWords.RunEnds.{run_device, run_ends_status, run_memory}
use Rattle.cli_commands.proofs.CommandsWords.Streaming.{refused_run}
use Rattle.cli_commands.proofs.commands.running.run_to_end.Goals as goal

pub returns-in-Err-clause-refused : goal.returns-in-Err-clause-refused
returns-in-Err-clause-refused g c = λ three. (
  c.in-Err.fault,
  refused_run c.args.chart.now _ _ _ _ c.in-Err.fault _ c.in-Err.ensures.ends (sym c.tell.ensures.status ∙ three),
  c.tell.ensures.line,
)

pub returns-in-Err-clause-device : goal.returns-in-Err-clause-device
returns-in-Err-clause-device g c =
    run_device c.in-Err.fault c.tell.result.status
    c.tell.result.is_told (g.V.Write.contents c.args.faults.now) (g.V.Write.contents c.tell.new.faults)
    c.tell.ensures.status c.tell.ensures.line c.in-Err.ensures.ends

pub returns-in-Err-clause-memory : goal.returns-in-Err-clause-memory
returns-in-Err-clause-memory g c =
    run_memory c.in-Err.fault c.tell.result.status
    c.tell.result.is_told (g.V.Write.contents c.args.faults.now) (g.V.Write.contents c.tell.new.faults)
    c.tell.ensures.status c.tell.ensures.line c.in-Err.ensures.ends

pub returns-in-Err-clause-statuses : goal.returns-in-Err-clause-statuses
returns-in-Err-clause-statuses g c =
    inr (run_ends_status c.in-Err.fault c.tell.result.status
    c.tell.result.is_told (g.V.Write.contents c.args.faults.now) (g.V.Write.contents c.tell.new.faults)
    c.tell.ensures.status c.tell.ensures.line c.in-Err.ensures.ends)
