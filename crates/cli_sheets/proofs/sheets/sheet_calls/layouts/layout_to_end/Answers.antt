use Rattle.std.proofs.Common.{inr}
use Rattle.cli_sheets.proofs.sheets.sheet_calls.layouts.layout_to_end.Goals as goal

pub returns-in-Err-clause-stopped : goal.returns-in-Err-clause-stopped
returns-in-Err-clause-stopped g c = inr (c.in-Err.fault, c.tell.ensures.status, c.in-Err.ensures.stopped, c.tell.ensures.line)
