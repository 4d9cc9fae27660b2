-- The page of the report around which pages are shown. The report has the pages up to that of its last line.
use Rattle.std.specs.Prelude.{◌≡◌, ℕ, Bool, true, false, List, Option, Some, IfSome, nat_le}
use Rattle.std.specs.List.{list_any}
use Rattle.machine.specs.Runs.{MachineLines}
use Rattle.page_text.specs.declared.placed_lines.placed_line.PlacedLine.{PlacedLine}
use Rattle.cli_commands.specs.declared.panel_guides.unexplained.Unexplained.{Unexplained}
use Rattle.hubs.specs.SetupsWords.Wiring.{Wiring}
use Rattle.cli_calls.specs.WholeRuns.Whole.{no_page}

-- whether a line stands on a page, or on one behind it
abbrev pub reaches : (page : ℕ) → List PlacedLine → Bool
reaches page lines = list_any (λ line. nat_le page line.page) lines

-- the machine prints a line on this page, or on one behind it
pub record ReachesPage (wiring : Wiring) (cards : List (List ℕ)) (page : ℕ) : Type 0 where
  pub lines : List PlacedLine
  pub run : MachineLines wiring cards lines
  pub reached : reaches page lines ≡ true

-- the lines that the machine prints end before this page
pub record EndsBefore (wiring : Wiring) (cards : List (List ℕ)) (page : ℕ) : Type 0 where
  pub lines : List PlacedLine
  pub run : MachineLines wiring cards lines
  pub short : reaches page lines ≡ false

-- the page that is asked for is there; where none is, nothing has to be
abbrev pub IsThere : (wiring : Wiring) (cards : List (List ℕ)) (around : Option ℕ) → Type 0
IsThere wiring cards around = IfSome around (ReachesPage wiring cards)

-- a page is asked for that isn't there, and this is told
pub record LacksAsked (wiring : Wiring) (cards : List (List ℕ)) (around : Option ℕ) (told : Unexplained) : Type 0 where
  pub page : ℕ
  pub asked : around ≡ Some page
  pub ends : EndsBefore wiring cards page
  pub named : told ≡ no_page page
