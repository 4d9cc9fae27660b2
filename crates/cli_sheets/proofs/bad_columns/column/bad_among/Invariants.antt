use Rattle.std.proofs.Common.{◌≡◌, drop}
use Rattle.cli_sheets.specs.BadColumns.Columns.{bad_among}
use Rattle.cli_sheets.proofs.bad_columns.column.bad_among.Given as goal

-- it is that of the fields from here on
abbrev pub invariant-loop-field : goal.invariant-loop-field
invariant-loop-field l = bad_among l.first l.line l.fields ≡ bad_among l.first l.line (drop l.field-index l.fields)
