-- The lines of a run that are shown: all of them, or those of some pages.
use Rattle.std.specs.Prelude.{◌≡◌, ℕ, List, Option, None, Some}
use Rattle.std.specs.List.{filter, flat_map}
use Rattle.explain_wheels.specs.ExplanationsWords.Pages.{AreFoundLines}
use Rattle.explain_wheels.specs.declared.explanations.found.FoundLine.{FoundLine}
use Rattle.machine.specs.Kept.{is_on}
use Rattle.machine.specs.Runs.{MachineLines}
use Rattle.page_text.specs.declared.placed_lines.placed_line.PlacedLine.{PlacedLine}
use Rattle.hubs.specs.SetupsWords.Wiring.{Wiring}

-- the lines on a page
abbrev pub lines_on : List PlacedLine → (page : ℕ) → List PlacedLine
lines_on lines page = filter (is_on page) lines

-- of the lines of a run all, or, page by page, those on the pages with these numbers
abbrev pub shown : Option (List ℕ) → List PlacedLine → List PlacedLine
shown None lines = lines
shown (Some pages) lines = flat_map (lines_on lines) pages

-- These are the lines of the machine's run over a deck that are shown, each with the cycle that placed it.
pub record AreShown (wiring : Wiring) (deck : List (List ℕ)) (pages : Option (List ℕ)) (placed : List PlacedLine)
    (found : List FoundLine) : Type 0 where
  pub placed_are : (lines : List PlacedLine) → MachineLines wiring deck lines → placed ≡ shown pages lines
  pub found_are : AreFoundLines wiring deck placed found
