-- What a sink holds after the deck of a text was replayed on a panel: the pages that the machine prints of it, wired so, or the front of them.
use Rattle.std.specs.Prelude.{ℕ, ◌≤◌, List, Option, length, take}
use Rattle.std.specs.Io.KnownBytes.{Appends}
use Rattle.card_code.specs.Deck.{Deck}
use Rattle.machine.specs.Runs.{MachineLines}
use Rattle.page_text.specs.Pages.{Pages}
use Rattle.page_text.specs.declared.placed_lines.placed_line.PlacedLine.{PlacedLine}
use Rattle.hubs.specs.SetupsWords.Wiring.{Wiring}

-- it has gained the pages of the lines of the machine's run over the deck
pub record GainsPages (wiring : Wiring) (text : List ℕ) (old new : Option (List ℕ)) : Type 0 where
  pub cards : List (List ℕ)
  pub punched : Deck text cards
  pub lines : List PlacedLine
  pub run : MachineLines wiring cards lines
  pub written : Appends old new (Pages lines wiring.tape.lines)

-- it has gained the first bytes of these pages, so many
pub record GainsFront (wiring : Wiring) (text : List ℕ) (count : ℕ) (old new : Option (List ℕ)) : Type 0 where
  pub cards : List (List ℕ)
  pub punched : Deck text cards
  pub lines : List PlacedLine
  pub run : MachineLines wiring cards lines
  pub within : count ≤ length (Pages lines wiring.tape.lines)
  pub written : Appends old new (take count (Pages lines wiring.tape.lines))
