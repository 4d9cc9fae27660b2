use Rattle.std.specs.Prelude.{◌≡◌, ◌++◌}
use Rattle.std.specs.List.{flat_map, range_with_len}
use Rattle.std.specs.String.{string_bytes}
use Rattle.show_sections.specs.ReportSheets.Sheets.{sheet_text}
use Rattle.show_sections.proofs.report_sheets.sheets.write_sheets.Given as goal

-- the sheets so far are written
abbrev pub invariant-loop-passed : goal.invariant-loop-passed
invariant-loop-passed l =
    string_bytes l.text ≡ string_bytes l.initial.text ++ flat_map (sheet_text l.shown l.lines l.found l.form_lines) (range_with_len l.first l.passed)
