-- The lines that a run over a deck places on a page, each with its cycle.
use Rattle.std.specs.Prelude.{◌≡◌, ℕ, List, All, map}
use Rattle.std.specs.List.{AllZip, filter}
use Rattle.page_text.specs.declared.placed_lines.placed_line.PlacedLine.{PlacedLine}
use Rattle.hubs.specs.SetupsWords.Wiring.{Wiring}
use Rattle.machine.specs.Kept.{is_on}
use Rattle.machine.specs.Runs.{MachineLines}
use Rattle.explain_wheels.specs.ExplanationsWords.PlacedInRun.{IsFound}
use Rattle.explain_wheels.specs.ExplanationsWords.Rows.{AreRowWays}
use Rattle.explain_wheels.specs.declared.explanations.explanation.LineWays.{LineWays}
use Rattle.explain_wheels.specs.declared.explanations.found.FoundLine.{FoundLine}

-- the line that a cycle placed
abbrev pub line_found : FoundLine → PlacedLine
line_found found = found.kept.line

-- Exactly the lines that the machine's run over the deck places on a page, in their order, each with the cycle that placed it.
pub record HasPage (wiring : Wiring) (deck : List (List ℕ)) (page : ℕ) (found : List FoundLine) : Type 0 where
  pub each : All (IsFound wiring deck) found
  pub lines : List PlacedLine
  pub run : MachineLines wiring deck lines
  pub exactly : map line_found found ≡ filter (is_on page) lines

-- the line of which ways are known
abbrev pub found_of : LineWays → FoundLine
found_of line = line.found

-- the ways of a line are those of its cycle
abbrev pub HasWays : Wiring → LineWays → Type 0
HasWays wiring line = AreRowWays wiring line.found.kept.points 12 line.ways.items

-- The lines of a page, each with the ways at the rows of its cycle.
pub record IsPage (wiring : Wiring) (deck : List (List ℕ)) (page : ℕ) (lines : List LineWays) : Type 0 where
  pub found : HasPage wiring deck page (map found_of lines)
  pub ways : All (HasWays wiring) lines

-- The lines of a page of some deck.
pub record IsPageOfSome (wiring : Wiring) (lines : List LineWays) : Type 0 where
  pub deck : List (List ℕ)
  pub page : ℕ
  pub is : IsPage wiring deck page lines

-- The cycle that placed a printed line, told by its page and its line on the page.
pub record IsFoundLine (wiring : Wiring) (deck : List (List ℕ)) (placed : PlacedLine) (one : FoundLine) : Type 0 where
  pub found : IsFound wiring deck one
  pub at_page : one.kept.line.page ≡ placed.page
  pub at_line : one.kept.line.line ≡ placed.line

-- the cycles that placed some lines, one for each, in their order
abbrev pub AreFoundLines : Wiring → List (List ℕ) → List PlacedLine → List FoundLine → Type 0
AreFoundLines wiring deck lines found = AllZip (IsFoundLine wiring deck) lines found
