use Rattle.cli_calls.proofs.Listed.{list_broken, list_taken}
use Rattle.cli_calls.proofs.shown.tell_listed.Goals as goal

pub returns-in-Ok : goal.returns-in-Ok
returns-in-Ok g c =
    (c.args.fault, c.tell.ensures.status, list_taken _ _ _ _ _ c.requires c.in-Ok.ensures.written, c.tell.ensures.line)

pub returns-in-Err : goal.returns-in-Err
returns-in-Err g c =
    (c.in-Err.unwritten, c.tell-in-Err.ensures.status, list_broken _ _ _ _ _ _ c.requires c.in-Err.ensures.told, c.tell-in-Err.ensures.line)
