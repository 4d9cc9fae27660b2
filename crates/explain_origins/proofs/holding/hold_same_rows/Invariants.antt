use Rattle.std.proofs.Common.{◌≡◌, drop}
use Rattle.explain_origins.specs.Holding.{hold_same_rows}
use Rattle.explain_origins.proofs.holding.hold_same_rows.Given as goal

-- they hold the same of the rows so far
abbrev pub invariant-loop-row : goal.invariant-loop-row
invariant-loop-row l = hold_same_rows l.one l.other (drop l.row-index l.rows) ≡ hold_same_rows l.one l.other l.rows
