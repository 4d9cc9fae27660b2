use Rattle.std.specs.Prelude.{◌≡◌, drop}
use Rattle.page_text.specs.Pages.{text_at}
use Rattle.show_sections.proofs.report_sheets.sheets.text_at.Given as goal

-- the text stands at the lines that are left
abbrev pub invariant-loop-placed : goal.invariant-loop-placed
invariant-loop-placed l = text_at (drop l.placed-index l.lines) l.page l.line ≡ text_at l.lines l.page l.line
