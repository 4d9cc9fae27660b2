use Rattle.std.proofs.Common.{refl}
use Rattle.fault_lines.proofs.ProgramIo.Stopping.{told_of_device, told_of_memory}
use Rattle.cli_commands.proofs.commands.served_replays.serving.replay_by_orders_to_end.Goals as goal

pub returns-in-Err-clause-device : goal.returns-in-Err-clause-device
returns-in-Err-clause-device g c =
    told_of_device c.in-Err.fault _ _ c.tell.result.status c.tell.result.is_told (g.V.Write.contents c.args.faults.now)
    (g.V.Write.contents c.tell.new.faults) c.in-Err.ensures.stopped c.tell.ensures.status c.tell.ensures.line refl _ c.in-Err.ensures.unread

pub returns-in-Err-clause-memory : goal.returns-in-Err-clause-memory
returns-in-Err-clause-memory g c =
    told_of_memory c.in-Err.fault _ _ c.tell.result.status c.tell.result.is_told (g.V.Write.contents c.args.faults.now)
    (g.V.Write.contents c.tell.new.faults) c.in-Err.ensures.stopped c.tell.ensures.status c.tell.ensures.line refl
