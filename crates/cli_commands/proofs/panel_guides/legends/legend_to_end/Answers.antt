use Rattle.cli_commands.proofs.PanelGuides.Legending.{told_memory, told_output, told_refused, told_status}
use Rattle.cli_commands.proofs.panel_guides.legends.legend_to_end.Goals as goal

pub returns-in-Err-clause-refused : goal.returns-in-Err-clause-refused
returns-in-Err-clause-refused g c =
    told_refused c.args.chart.now c.in-Err.fault _ c.tell.result.status c.tell.result.is_told (g.V.Write.contents c.args.faults.now)
    (g.V.Write.contents c.tell.new.faults) c.in-Err.ensures.stopped c.tell.ensures.status c.tell.ensures.line

pub returns-in-Err-clause-output : goal.returns-in-Err-clause-output
returns-in-Err-clause-output g c =
    told_output c.args.chart.now c.in-Err.fault _ c.tell.result.status c.tell.result.is_told (g.V.Write.contents c.args.faults.now)
    (g.V.Write.contents c.tell.new.faults) c.in-Err.ensures.stopped c.tell.ensures.status c.tell.ensures.line

pub returns-in-Err-clause-memory : goal.returns-in-Err-clause-memory
returns-in-Err-clause-memory g c =
    told_memory c.args.chart.now c.in-Err.fault _ c.tell.result.status c.tell.result.is_told (g.V.Write.contents c.args.faults.now)
    (g.V.Write.contents c.tell.new.faults) c.in-Err.ensures.stopped c.tell.ensures.status c.tell.ensures.line

pub returns-in-Err-clause-statuses : goal.returns-in-Err-clause-statuses
returns-in-Err-clause-statuses g c =
    told_status c.args.chart.now c.in-Err.fault _ c.tell.result.status c.tell.result.is_told (g.V.Write.contents c.args.faults.now)
    (g.V.Write.contents c.tell.new.faults) c.in-Err.ensures.stopped c.tell.ensures.status c.tell.ensures.line
