-- Which fault is told where a wiring chart or the text of a deck is refused.
use Rattle.std.specs.Prelude.{◌≡◌, ℕ, List}
use Rattle.card_code.specs.Deck.{HasDeckFault}
use Rattle.card_code.specs.declared.deck.DeckFault.{DeckFault}
use Rattle.fault_lines.specs.FaultsWords.ToldFaults.{deck_told, wiring_told}
use Rattle.fault_lines.specs.declared.faults.fault.Fault.{Fault}
use Rattle.wiring_text.specs.WiringFaults.{HasWiringFault}
use Rattle.wiring_text.specs.declared.fault.WiringFault.{WiringFault}

-- the fault of a wiring chart is told
pub record RefusesWiring (text : List ℕ) (told : Fault) : Type 0 where
  pub cause : WiringFault
  pub at_fault : HasWiringFault text cause
  pub named : told ≡ wiring_told cause

-- the fault of a deck's text is told
pub record RefusesDeck (deck : List ℕ) (told : Fault) : Type 0 where
  pub cause : DeckFault
  pub at_fault : HasDeckFault deck cause
  pub named : told ≡ deck_told cause
