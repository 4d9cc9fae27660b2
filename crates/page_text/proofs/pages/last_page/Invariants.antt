use Rattle.std.proofs.Common.{◌≡◌, drop}
use Rattle.std.specs.Prelude.{max}
use Rattle.page_text.specs.Pages.{last_page}
use Rattle.page_text.proofs.pages.last_page.Given as goal

abbrev pub invariant-loop-placed : goal.invariant-loop-placed
invariant-loop-placed l = max l.last (last_page (drop l.placed-index l.lines)) ≡ last_page l.lines
