-- What the command has done where it ends well, and what it has told where it doesn't. The deck is known where its reader tells its bytes
-- beforehand, and what is written where the writer tells what it holds.
use Rattle.std.specs.Prelude.{◌≡◌, ℕ, List, Option, IfSome}
use Rattle.std.specs.Io.KnownBytes.{Appends}
use Rattle.fault_lines.specs.FaultsWords.Status.{status_of}
use Rattle.fault_lines.specs.declared.faults.fault.Fault.{Fault}
use Rattle.cli_commands.specs.PanelGuides.Explained.{RefusesTexts}
use Rattle.cli_commands.specs.PanelGuides.Panels.{HasPanel}
use Rattle.fault_lines.specs.ProgramIo.Stops.{StopsWith}
use Rattle.cli_commands.specs.PanelGuides.TraceCalls.Traced.{IsTraceOf}

-- the trace of the run over the deck that was read was written after what was there
pub record PrintsTrace (text : List ℕ) (deck old new : Option (List ℕ)) : Type 0 where
  pub read : List ℕ
  pub is_deck : IfSome deck (λ known. read ≡ known)
  pub trace : List ℕ
  pub traced : IsTraceOf text read trace
  pub written : Appends old new trace

-- the text, or the deck that was read, is refused, and this is told
pub record LeavesUntraced (text : List ℕ) (deck : Option (List ℕ)) (told : Fault) : Type 0 where
  pub read : List ℕ
  pub is_deck : IfSome deck (λ known. read ≡ known)
  pub refuses : RefusesTexts text read told

-- Why no trace was printed: the texts are refused, or the deck can't be read, and nothing was printed; or the output can't be written, or
-- memory ran out, and a part of the trace may have been printed.
abbrev pub StopsTrace : (text : List ℕ) (deck : Option (List ℕ)) (told unreadable : Fault) (Unprinted : Type 0) → Type 0
StopsTrace text deck told unreadable Unprinted =
    StopsWith status_of (λ met. met) told unreadable (LeavesUntraced text deck told) (HasPanel text) Unprinted
