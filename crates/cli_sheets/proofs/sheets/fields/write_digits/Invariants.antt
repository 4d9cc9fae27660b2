use Rattle.std.proofs.Common.{◌≡◌, ◌++◌, map}
use Rattle.report_definition.specs.Edits.{figure, last_digits}
use Rattle.cli_sheets.proofs.sheets.fields.write_digits.Given as goal

-- the digits that are left are those that are still to come
abbrev pub invariant-loop-place : goal.invariant-loop-place
invariant-loop-place l =
    l.text.items ++ map figure (last_digits l.place l.number) ≡ l.initial.text.items ++ map figure (last_digits l.count l.number)
