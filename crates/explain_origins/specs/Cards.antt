-- The cards that stand in the machine in a cycle of a run are those of the deck with the numbers that are told.
use Rattle.std.specs.Prelude.{◌≡◌, ℕ, zero, suc, List, Option, None, slice_get}
use Rattle.explain_ledgers.specs.LedgersWords.Ledgers.{card_in}
use Rattle.explain_ledgers.specs.LedgersWords.Running.{HasCycle}
use Rattle.machine.specs.Machine.{MachineState}
use Rattle.hubs.specs.SetupsWords.Wiring.{Wiring}

-- the card with a number, counted from 1
abbrev pub card_numbered : List (List ℕ) → ℕ → Option (List ℕ)
card_numbered deck zero = None
card_numbered deck (suc before) = slice_get deck before

-- If so many cards were read, the last of them stands at second reading, and the next one at first reading.
pub record CardsStand (deck : List (List ℕ)) (card : ℕ) (machine : MachineState) : Type 0 where
  pub second : machine.stations.second ≡ card_numbered deck card
  pub first : machine.stations.first ≡ slice_get deck card

-- So it is in each cycle of a run.
abbrev pub CardsAreNumbered : Type 0
CardsAreNumbered =
    (wiring : Wiring) (deck : List (List ℕ)) (passed : ℕ) (has : HasCycle wiring deck passed)
    → CardsStand deck (card_in has.cycle has.along.card) has.behind
