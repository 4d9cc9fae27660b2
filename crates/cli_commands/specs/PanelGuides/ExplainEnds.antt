-- What a command that explains has told if it doesn't end well. The deck is known if its reader tells its bytes beforehand.
use Rattle.std.specs.Prelude.{◌≡◌, ℕ, List, Option, IfSome}
use Rattle.fault_lines.specs.declared.faults.fault.Fault.{Fault}
use Rattle.cli_commands.specs.PanelGuides.Explained.{IsUnexplained}
use Rattle.cli_commands.specs.PanelGuides.Panels.{HasPanel}
use Rattle.cli_commands.specs.PanelGuides.Unexplained.{unexplained_status}
use Rattle.cli_commands.specs.declared.panel_guides.place.Place.{Place}
use Rattle.cli_commands.specs.declared.panel_guides.unexplained.Unexplained.{Unexplained}
use Rattle.cli_commands.specs.declared.panel_guides.unexplained.Unexplained.TheVariants as why
use Rattle.fault_lines.specs.ProgramIo.Stops.{StopsWith}

-- with the deck that was read nothing is explained, and this is told
pub record LeavesUnexplained (text : List ℕ) (deck : Option (List ℕ)) (place : Place) (told : Unexplained) : Type 0 where
  pub read : List ℕ
  pub is_deck : IfSome deck (λ known. read ≡ known)
  pub unexplained : IsUnexplained text read place told

-- Why no explanation was printed: the texts are refused or there is no such place, or the deck can't be read, and nothing was printed; or
-- the output can't be written, or memory ran out.
abbrev pub StopsExplanation : (text : List ℕ) (deck : Option (List ℕ)) (place : Place) (told : Unexplained) (unreadable : Fault)
    (Unprinted : Type 0) → Type 0
StopsExplanation text deck place told unreadable Unprinted =
    StopsWith unexplained_status why.Failed told unreadable (LeavesUnexplained text deck place told) (HasPanel text) Unprinted
