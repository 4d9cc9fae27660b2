-- What is told of a card that is not valid is what is told of its line.
use Rattle.std.proofs.Common.{refl, ℕ, List}
use Rattle.card_code.specs.Deck.{IsCardOf}
use Rattle.chart_rules.specs.ValidCard.{IsFirstInvalid}
use Rattle.chart_rules.specs.declared.card.CardFault.{CardFault}
use Rattle.chart_rules.specs.declared.card.CardFault.TheVariants as invalid
use Rattle.chart_lines.specs.ChartsWords.Chart.{Chart}
use Rattle.cli_decks.specs.CheckCalls.DeckChecks.BadLines.{IsBadLine, not_amount, not_text}
use Rattle.fault_lines.specs.FaultsWords.ToldFaults.{of_card, run_told}
use Rattle.chart_line_rules.specs.FieldRules.Fields.{fields_of}

pub invalid_is_bad : (chart : Chart) (number : ℕ) (line card : List ℕ) (fault : CardFault) → IsCardOf line card
    → IsFirstInvalid (fields_of chart.lines) card fault → IsBadLine chart number line (run_told (of_card fault number))
invalid_is_bad chart number line card (invalid.NotText column) punched first = not_text card column punched first refl
invalid_is_bad chart number line card (invalid.NotAmount column) punched first = not_amount card column punched first refl
