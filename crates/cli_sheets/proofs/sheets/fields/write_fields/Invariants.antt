use Rattle.std.proofs.Common.{◌≡◌, ◌++◌, take}
use Rattle.std.specs.List.{flat_map}
use Rattle.chart_line_rules.specs.FieldRules.Fields.{fields_of}
use Rattle.cli_sheets.specs.SheetsWords.Fields.{field_told}
use Rattle.cli_sheets.proofs.sheets.fields.write_fields.Given as goal

-- so many fields are told
abbrev pub invariant-loop-field : goal.invariant-loop-field
invariant-loop-field l =
    l.text.items ≡ l.initial.text.items ++ flat_map (field_told l.tells_values l.card) (take l.field-index (fields_of l.chart.lines))
