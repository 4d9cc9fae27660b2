use Rattle.std.proofs.Common.{◌≡◌, ◌++◌, take}
use Rattle.std.specs.List.{flat_map}
use Rattle.cli_sheets.specs.SheetsWords.Layout.{section}
use Rattle.cli_sheets.proofs.sheets.layout.write_sections.Given as goal

-- so many lines of the report are drawn
abbrev pub invariant-loop-printed : goal.invariant-loop-printed
invariant-loop-printed l = l.text.items ≡ l.initial.text.items ++ flat_map (section l.chart.lines) (take l.printed-index l.report_lines)
