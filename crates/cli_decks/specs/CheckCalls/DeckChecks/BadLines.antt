-- Which lines of a deck are good cards for a chart, and what is told of the others.
use Rattle.std.specs.Prelude.{◌≡◌, ℕ, List}
use Rattle.card_code.specs.Deck.{HasLineFault, IsCardOf}
use Rattle.card_code.specs.declared.deck.DeckFault.{DeckFault}
use Rattle.chart_rules.specs.ValidCard.{IsFirstInvalid, IsValidCard}
use Rattle.chart_rules.specs.declared.card.CardFault.TheVariants as invalid
use Rattle.chart_lines.specs.ChartsWords.Chart.{Chart}
use Rattle.fault_lines.specs.FaultsWords.ToldFaults.{deck_told, run_told}
use Rattle.fault_lines.specs.declared.faults.deck.RunFault.TheVariants as deck
use Rattle.fault_lines.specs.declared.faults.fault.Fault.{Fault}
use Rattle.chart_line_rules.specs.FieldRules.Fields.{fields_of}

-- The card of a line, which is valid for the chart.
pub record IsGoodLine (chart : Chart) (line card : List ℕ) : Type 0 where
  pub punched : IsCardOf line card
  pub valid : IsValidCard chart card

-- What is told of a bad line, the one with a number: why it is no card, or the first field of its card that is not valid for the chart.
pub data IsBadLine (chart : Chart) (number : ℕ) (line : List ℕ) (told : Fault) : Type 0 where
  no_card : (fault : DeckFault) → HasLineFault line number fault → told ≡ deck_told fault → IsBadLine chart number line told
  not_text : (card : List ℕ) (column : ℕ) → IsCardOf line card → IsFirstInvalid (fields_of chart.lines) card (invalid.NotText column)
      → told ≡ run_told (deck.NotText number column) → IsBadLine chart number line told
  not_amount : (card : List ℕ) (column : ℕ) → IsCardOf line card → IsFirstInvalid (fields_of chart.lines) card (invalid.NotAmount column)
      → told ≡ run_told (deck.NotAmount number column) → IsBadLine chart number line told
