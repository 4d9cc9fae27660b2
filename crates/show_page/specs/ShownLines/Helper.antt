-- Helper words of the code: lines come behind others, each with the cycle that placed it.
use Rattle.std.specs.Prelude.{◌≡◌, ℕ, List, ◌++◌, map}
use Rattle.explain_wheels.specs.ExplanationsWords.Pages.{HasPage, line_found}
use Rattle.explain_wheels.specs.declared.explanations.found.FoundLine.{FoundLine}
use Rattle.page_text.specs.declared.placed_lines.placed_line.PlacedLine.{PlacedLine}
use Rattle.hubs.specs.SetupsWords.Wiring.{Wiring}

-- the lines of some cycles
pub record GainsLines (some : List FoundLine) (lines lines_now : List PlacedLine) (found found_now : List FoundLine) : Type 0 where
  pub placed : lines_now ≡ lines ++ map line_found some
  pub cycles : found_now ≡ found ++ some

-- those of a page
pub record GainsPage (wiring : Wiring) (deck : List (List ℕ)) (page : ℕ) (lines lines_now : List PlacedLine)
    (found found_now : List FoundLine) : Type 0 where
  pub some : List FoundLine
  pub has : HasPage wiring deck page some
  pub gained : GainsLines some lines lines_now found found_now
