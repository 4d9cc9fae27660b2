use Rattle.std.proofs.Common.{◌≡◌, drop}
use Rattle.std.specs.List.{filter_map}
use Rattle.report_definition.specs.BodyLines.{line_of}
use Rattle.cli_sheets.specs.SheetsWords.Layout.{drawn_piece}
use Rattle.cli_sheets.proofs.sheets.lines.draw_line.Given as goal

-- the items of the lines from here on are drawn
abbrev pub invariant-loop-place : goal.invariant-loop-place
invariant-loop-place l =
    l.drawn ≡ line_of (filter_map (λ line. drawn_piece l.chart.lines l.printed line.statement) (drop l.place l.chart.lines))
