use Rattle.std.specs.Prelude.{Some, take}
use Rattle.show_page.specs.ShownLines.Shown.{AreShown}
use Rattle.show_page.proofs.shown_lines.shown.lines_on_pages.Given as goal

-- the lines of the pages so far
abbrev pub invariant-loop-page : goal.invariant-loop-page
invariant-loop-page l = AreShown l.setup l.cards (Some (take l.page-index l.pages)) l.lines.items l.found.items
