use Rattle.std.specs.Prelude.{◌≡◌, drop}
use Rattle.std.specs.String.{string_bytes}
use Rattle.show_sections.specs.ReportSheets.Sheets.{word_at}
use Rattle.show_sections.proofs.report_sheets.sheets.write_word_at.Given as goal

-- the word is that of one of the cycles that are left, and nothing is written so far
abbrev pub invariant-loop-one : goal.invariant-loop-one
invariant-loop-one l =
    (word_at l.shown (drop l.one-index l.found) l.page l.line ≡ word_at l.shown l.found l.page l.line) × (string_bytes l.text ≡ string_bytes l.initial.text)
