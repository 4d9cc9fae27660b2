use Rattle.std.specs.Prelude.{◌≡◌, ◌++◌}
use Rattle.std.specs.List.{flat_map, range_with_len}
use Rattle.std.specs.String.{string_bytes}
use Rattle.show_sections.specs.ReportSheets.Sheets.{sheet_row}
use Rattle.show_sections.proofs.report_sheets.sheets.write_rows.Given as goal

-- the rows so far are written
abbrev pub invariant-loop-passed : goal.invariant-loop-passed
invariant-loop-passed l =
    string_bytes l.text ≡ string_bytes l.initial.text ++ flat_map (sheet_row l.shown l.lines l.found l.page) (range_with_len 1 l.passed)
