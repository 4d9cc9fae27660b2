use Rattle.std.proofs.Common.{◌≡◌, ◌+◌, drop}
use Rattle.cli_sheets.specs.BadColumns.Columns.{has_digits}
use Rattle.cli_sheets.proofs.bad_columns.column.has_digits.Given as goal

-- a digit stands in a column exactly if one does from here on
abbrev pub invariant-loop-place : goal.invariant-loop-place
invariant-loop-place l = has_digits l.field 1 l.bytes ≡ has_digits l.field (l.place + 1) (drop l.place l.bytes)
