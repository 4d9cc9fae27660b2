use Rattle.std.proofs.Common.{rules}
use Rattle.std.proofs.lemmas.Result.{on_ok_weaker}
use Rattle.wiring_lines.proofs.LineWires.Steps.{adds-where}
use Rattle.wiring_totals.proofs.amount.wire_lowest.Goals as goal

pub returns-then-is_lowest : goal.returns-then-is_lowest
returns-then-is_lowest c =
    on_ok_weaker c.wire_entry.result (adds-where (c.if-is_lowest.ensures.0 (search rules))) c.wire_entry.ensures
