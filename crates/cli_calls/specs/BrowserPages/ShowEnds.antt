-- What the command has done where it ends well, and what it has told where it doesn't. The deck is known where its reader tells its bytes
-- beforehand, and what is written where the writer tells what it holds.
use Rattle.std.specs.Prelude.{◌≡◌, ℕ, List, Option, IfSome}
use Rattle.std.specs.Io.KnownBytes.{Appends}
use Rattle.fault_lines.specs.declared.faults.fault.Fault.{Fault}
use Rattle.cli_commands.specs.PanelGuides.Panels.{HasPanel}
use Rattle.cli_commands.specs.PanelGuides.Unexplained.{unexplained_status}
use Rattle.cli_commands.specs.declared.panel_guides.unexplained.Unexplained.{Unexplained}
use Rattle.cli_commands.specs.declared.panel_guides.unexplained.Unexplained.TheVariants as why
use Rattle.fault_lines.specs.ProgramIo.Stops.{StopsWith}
use Rattle.cli_calls.specs.BrowserPages.Shown.{IsShown, IsUnshown}

-- the page of a text and a deck, around a page of the report or none, was written after what was there
pub record PrintsPageOf (text deck : List ℕ) (around : Option ℕ) (old new : Option (List ℕ)) : Type 0 where
  pub page : List ℕ
  pub shown : IsShown text deck around page
  pub written : Appends old new page

-- that of the deck that was read was written
pub record PrintsPage (text : List ℕ) (deck : Option (List ℕ)) (around : Option ℕ) (old new : Option (List ℕ)) : Type 0 where
  pub read : List ℕ
  pub is_deck : IfSome deck (λ known. read ≡ known)
  pub prints : PrintsPageOf text read around old new

-- with the deck that was read there is no page, and this is told
pub record LeavesUnshown (text : List ℕ) (deck : Option (List ℕ)) (around : Option ℕ) (told : Unexplained) : Type 0 where
  pub read : List ℕ
  pub is_deck : IfSome deck (λ known. read ≡ known)
  pub unshown : IsUnshown text read around told

-- Why no page was written: the texts are refused or there is no such page of the report, or the deck can't be read, and nothing was written;
-- or the output can't be written, or memory ran out.
abbrev pub StopsShow : (text : List ℕ) (deck : Option (List ℕ)) (around : Option ℕ) (told : Unexplained) (unreadable : Fault)
    (Unprinted : Type 0) → Type 0
StopsShow text deck around told unreadable Unprinted =
    StopsWith unexplained_status why.Failed told unreadable (LeavesUnshown text deck around told) (HasPanel text) Unprinted
