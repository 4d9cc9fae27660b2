-- What a fault says of a deck of cards.
use Rattle.std.specs.Prelude.{◌≡◌, ℕ, ◌+◌, ◌<◌, ◌≤◌, List, Some, length, take, slice_get, All}
use Rattle.card_code.specs.MostCards.{most_cards}
use Rattle.chart_text.specs.Below.chart_lines.ChartsWords.Chart.{Chart}
use Rattle.chart_rules.specs.Below.chart_line_rules.FieldRules.Fields.{fields_of}
use Rattle.chart_rules.specs.ValidCard.{IsValidCard, IsFirstInvalid}
use Rattle.chart_rules.specs.declared.card.CardFault.{CardFault}
use Rattle.report_misfits.specs.Below.report_definition.Misfits.{Misfit, first_of, misfits}
use Rattle.fault_lines.specs.FaultsWords.ToldFaults.{of_card}
use Rattle.fault_lines.specs.declared.faults.deck.RunFault.{RunFault}
use Rattle.fault_lines.specs.declared.faults.deck.RunFault.TheVariants as deck
use Rattle.report_runs.specs.PrintPromises.Promises.{IsDeck}

-- the fault tells of the first card of the deck that is not valid, by its number from 1
pub record IsInvalidDeck (chart : Chart) (cards : List (List ℕ)) (fault : RunFault) : Type 0 where
  pub place : ℕ
  pub card : List ℕ
  pub is_there : slice_get cards place ≡ Some card
  pub valid_before : All (IsValidCard chart) (take place cards)
  pub told : CardFault
  pub first : IsFirstInvalid (fields_of chart.lines) card told
  pub is_fault : fault ≡ of_card told (place + 1)

-- the fault tells of the first total that has more digits than its total line has room for
pub record IsMisfit (chart : Chart) (cards : List (List ℕ)) (fault : RunFault) : Type 0 where
  pub misfit : Misfit
  pub is_first : first_of (misfits chart.lines cards) ≡ Some misfit
  pub is_fault : fault ≡ deck.DoesNotFit misfit.level misfit.name misfit.card

-- What a fault says of a deck; no deck makes memory run out.
abbrev pub HasRunFault : Chart → List (List ℕ) → RunFault → Type 0
HasRunFault chart cards deck.TooManyCards = most_cards < length cards
HasRunFault chart cards (deck.NotText number column) =
    (length cards ≤ most_cards) × IsInvalidDeck chart cards (deck.NotText number column)
HasRunFault chart cards (deck.NotAmount number column) =
    (length cards ≤ most_cards) × IsInvalidDeck chart cards (deck.NotAmount number column)
HasRunFault chart cards (deck.DoesNotFit level name card) =
    IsDeck chart cards × IsMisfit chart cards (deck.DoesNotFit level name card)
HasRunFault chart cards deck.Memory = ⊥
