use Rattle.std.proofs.Common.{◌≡◌, ◌++◌, take}
use Rattle.std.specs.List.{flat_map}
use Rattle.cli_sheets.specs.SheetsWords.Marks.{name_at}
use Rattle.cli_sheets.proofs.sheets.marks.write_names_at.Given as goal

-- so many fields are looked at
abbrev pub invariant-loop-field : goal.invariant-loop-field
invariant-loop-field l = l.text.items ≡ l.initial.text.items ++ flat_map (name_at l.column) (take l.field-index l.fields)
