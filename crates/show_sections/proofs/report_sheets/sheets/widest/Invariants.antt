use Rattle.std.proofs.Common.{◌≡◌, drop}
use Rattle.std.specs.Prelude.{max}
use Rattle.show_sections.specs.ReportSheets.Sheets.{widest}
use Rattle.show_sections.proofs.report_sheets.sheets.widest.Given as goal

-- the lines so far, and those that are left
abbrev pub invariant-loop-placed : goal.invariant-loop-placed
invariant-loop-placed l = max l.wide (widest (drop l.placed-index l.lines)) ≡ widest l.lines
