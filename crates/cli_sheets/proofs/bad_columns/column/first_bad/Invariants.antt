use Rattle.std.proofs.Common.{◌≡◌, ◌+◌, drop, false}
use Rattle.cli_sheets.specs.BadColumns.Columns.{bad_from}
use Rattle.cli_sheets.proofs.bad_columns.column.first_bad.Given as goal

-- the first column at fault is that of the columns from here on
abbrev pub invariant-loop-place : goal.invariant-loop-place
invariant-loop-place l =
    bad_from l.field l.has_some false 1 l.bytes ≡ bad_from l.field l.has_some l.is_begun (l.place + 1) (drop l.place l.bytes)
