-- The numbers of faults, and that each number which a fault line can have is one of them.
use Rattle.std.specs.Prelude.{◌≡◌, ℕ, ◌&&◌, ◌||◌, ◌==◌, nat_le, Bool, true}
use Rattle.card_code.specs.declared.deck.DeckFault.{DeckFault}
use Rattle.fault_lines.specs.FaultsWords.ToldFaults.{chart_told, deck_told, run_told, wiring_told}
use Rattle.fault_lines.specs.declared.faults.chart.ChartFault.{ChartFault}
use Rattle.fault_lines.specs.declared.faults.deck.RunFault.{RunFault}
use Rattle.fault_lines.specs.declared.faults.fault.Fault.{Fault}
use Rattle.fault_lines.specs.declared.faults.fault.Fault.TheVariants as told
use Rattle.wiring_text.specs.declared.fault.WiringFault.{WiringFault}

-- whether a number is one of those from the first to the last
abbrev pub is_among : (first last number : ℕ) → Bool
is_among first last number = nat_le first number && nat_le number last

-- whether a number is that of a fault that the program tells
abbrev pub is_numbered : ℕ → Bool
is_numbered number =
    is_among 1 4 number || is_among 11 14 number || is_among 21 38 number || is_among 41 43 number || is_among 51 54 number
    || is_among 61 67 number || is_among 71 76 number || (number == 84) || is_among 92 96 number

-- the numbers on the line of a fault are those of faults: its own, that of its cause, and 4 for a card that can't be read
abbrev pub HasEntries : Fault → Type 0
HasEntries (told.Whole number) = is_numbered number ≡ true
HasEntries (told.Line number line) = is_numbered number ≡ true
HasEntries (told.Cause number line cause) = (is_numbered number ≡ true) × (is_numbered cause ≡ true)
HasEntries (told.Card number card) = is_numbered number ≡ true
HasEntries (told.Column number card column) = is_numbered number ≡ true
HasEntries (told.Counters number width wanted there) = is_numbered number ≡ true
HasEntries (told.Capacity number wanted there) = is_numbered number ≡ true
HasEntries (told.Indicate number level wanted there) = is_numbered number ≡ true
HasEntries (told.Total number level name card) = is_numbered number ≡ true
HasEntries (told.Unread card) = is_numbered 4 ≡ true
HasEntries other = Unit {0}

-- it is so of whatever is told of a deck, of a chart with it, of a chart and of a wiring chart, and of a card that can't be read
pub record ToldFaultsHaveEntries : Type 0 where
  pub of_deck : (fault : DeckFault) → HasEntries (deck_told fault)
  pub of_run : (fault : RunFault) → HasEntries (run_told fault)
  pub of_chart : (fault : ChartFault) → HasEntries (chart_told fault)
  pub of_wiring : (fault : WiringFault) → HasEntries (wiring_told fault)
  pub of_card : (card : ℕ) → HasEntries (told.Unread card)
