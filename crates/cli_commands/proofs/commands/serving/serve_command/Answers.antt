use Rattle.std.proofs.Common.{inr, refl}
use Rattle.cli_commands.proofs.CommandsWords.Streaming.{told_of_device_by, told_of_memory_by, told_status_by}
use Rattle.cli_commands.proofs.commands.serving.serve_command.Goals as goal

pub returns-in-Err-clause-device : goal.returns-in-Err-clause-device
returns-in-Err-clause-device g c =
    told_of_device_by c.args.text.now (g.R.Read.remaining c.args.deck) _ _ c.in-Err.fault _ _ c.tell.result.status
    c.tell.result.is_told (g.V.Write.contents c.args.faults.now) (g.V.Write.contents c.tell.new.faults)
    c.tell.ensures.status c.tell.ensures.line refl c.args.command c.in-Err.ensures.failed

pub returns-in-Err-clause-memory : goal.returns-in-Err-clause-memory
returns-in-Err-clause-memory g c =
    told_of_memory_by c.args.text.now (g.R.Read.remaining c.args.deck) _ _ c.in-Err.fault _ _ c.tell.result.status
    c.tell.result.is_told (g.V.Write.contents c.args.faults.now) (g.V.Write.contents c.tell.new.faults)
    c.tell.ensures.status c.tell.ensures.line refl c.args.command c.in-Err.ensures.failed

pub returns-in-Err-clause-statuses : goal.returns-in-Err-clause-statuses
returns-in-Err-clause-statuses g c =
    inr (told_status_by c.args.text.now (g.R.Read.remaining c.args.deck) _ _ c.in-Err.fault _ _ c.tell.result.status
    c.tell.result.is_told (g.V.Write.contents c.args.faults.now) (g.V.Write.contents c.tell.new.faults)
    c.tell.ensures.status c.tell.ensures.line refl c.args.command c.in-Err.ensures.failed)
