-- How what is told of a wheel is written.
use Rattle.std.proofs.Common.{◌≡◌, subst, refl, ℕ, List, Option, Some}
use Rattle.std.specs.Io.KnownBytes.{Appends}
use Rattle.cli_commands.specs.PanelGuides.LedgerCalls.LedgerEnds.{PrintsTelling}
use Rattle.cli_commands.specs.PanelGuides.LedgerCalls.Tellings.{TellsWheel}
use Rattle.cli_commands.specs.declared.panel_guides.ledger_calls.telling.Question.{Question}
use Rattle.cli_commands.specs.declared.panel_guides.place.Place.{Place}

-- what is told of the deck in memory is written
pub telling_written : (text deck : List ℕ) (question : Question) (place : Place) (answer bytes : List ℕ) (old new : Option (List ℕ))
    → TellsWheel question text deck place answer → bytes ≡ answer → Appends old new bytes
    → PrintsTelling text (Some deck) question place old new
telling_written text deck question place answer bytes old new told same written =
    record { read = deck; is_deck = refl; answer = answer; told = told; written = subst (Appends old new) same written }
