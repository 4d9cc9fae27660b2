-- What the command has done where it ends well. Why it doesn't is told as of an explanation.
use Rattle.std.specs.Prelude.{◌≡◌, ℕ, List, Option, IfSome}
use Rattle.std.specs.Io.KnownBytes.{Appends}
use Rattle.cli_commands.specs.declared.panel_guides.place.Place.{Place}
use Rattle.cli_commands.specs.PanelGuides.LedgerCalls.Tellings.{TellsWheel}
use Rattle.cli_commands.specs.declared.panel_guides.ledger_calls.telling.Question.{Question}

-- what is asked for of a wheel of the run over the deck that was read was written after what was there
pub record PrintsTelling (text : List ℕ) (deck : Option (List ℕ)) (question : Question) (place : Place) (old new : Option (List ℕ)) :
    Type 0 where
  pub read : List ℕ
  pub is_deck : IfSome deck (λ known. read ≡ known)
  pub answer : List ℕ
  pub told : TellsWheel question text read place answer
  pub written : Appends old new answer
