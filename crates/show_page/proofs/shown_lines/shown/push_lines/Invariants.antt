use Rattle.std.specs.Prelude.{map, take}
use Rattle.explain_wheels.specs.ExplanationsWords.Pages.{found_of}
use Rattle.show_page.specs.ShownLines.Helper.{GainsLines}
use Rattle.show_page.proofs.shown_lines.shown.push_lines.Given as goal

-- the lines so far are added
abbrev pub invariant-loop-line : goal.invariant-loop-line
invariant-loop-line l =
    GainsLines (map found_of (take l.line-index l.ways)) l.initial.lines.items l.lines.items l.initial.found.items l.found.items
