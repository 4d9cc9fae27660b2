use Rattle.std.specs.Prelude.{◌≡◌, ◌-◌, ◌++◌, slice_index_or}
use Rattle.std.specs.List.{flat_map, range_with_len}
use Rattle.std.specs.String.{string_bytes}
use Rattle.show_sections.specs.ReportSheets.Sheets.{wheel_text}
use Rattle.show_sections.proofs.report_sheets.sheets.write_characters.Given as goal

-- the wheels so far are written
abbrev pub invariant-loop-place : goal.invariant-loop-place
invariant-loop-place l =
    string_bytes l.text
    ≡ string_bytes l.initial.text
    ++ flat_map (λ wheel. wheel_text l.page l.line wheel (slice_index_or l.characters (wheel - 1) 0)) (range_with_len 1 l.place)
