-- Why a streamed run stops.
use Rattle.std.specs.Prelude.{◌≡◌, ℕ, ◌+◌, ◌-◌, ◌≤◌, Bool, true, false, List, [], ◌∷◌, ◌++◌, Option, Some, None, length, ⊤}
use Rattle.card_code.specs.MostCards.{most_cards}
use Rattle.report_streams.specs.CardLines.Faults.{HasFaultNext, read_fault_number}
use Rattle.report_streams.specs.declared.card_lines.fault.ReadFault.{ReadFault}
use Rattle.report_streams.specs.declared.card_lines.fault.ReadFault.TheVariants as read
use Rattle.chart_lines.specs.ChartsWords.Chart.{Chart}
use Rattle.chart_line_rules.specs.FieldRules.Fields.{fields_of}
use Rattle.chart_rules.specs.ValidCard.{IsFirstInvalid, fault_number}
use Rattle.chart_rules.specs.declared.card.CardFault.{CardFault}
use Rattle.report_definition.specs.Misfits.{first_of, misfits}
use Rattle.report_misfits.specs.ToldMisfits.{told}
use Rattle.report_runs.specs.Reading.{HasRead}
use Rattle.report_runs.specs.declared.fault.StreamCause.{StreamCause}
use Rattle.report_runs.specs.declared.fault.StreamCause.TheVariants as cause

-- the number of a cause in the catalogue of faults; want of memory has none
abbrev pub cause_number : StreamCause → Option ℕ
cause_number (cause.Card fault) = read_fault_number fault
cause_number (cause.Invalid fault card) = Some (fault_number fault)
cause_number (cause.Misfit misfit) = Some 43
cause_number cause.Write = Some 91
cause_number cause.Memory = None

-- the card after those read so far can't be read
pub record IsUnreadNext (text : List ℕ) (cards : List (List ℕ)) (fault : ReadFault) : Type 0 where
  pub rest : List ℕ
  pub is_read : HasRead text cards rest
  pub is_fault : HasFaultNext (length cards) rest fault

-- The card after those read so far, that of this number, is one of the first 999,999 and not valid for the chart, by its first invalid field.
pub record IsInvalidNext (chart : Chart) (text : List ℕ) (cards : List (List ℕ)) (fault : CardFault) (number : ℕ) : Type 0 where
  pub card : List ℕ
  pub rest : List ℕ
  pub is_read : HasRead text (cards ++ card ∷ []) rest
  pub is_next : number ≡ length cards + 1
  pub few : number ≤ most_cards
  pub is_first : IsFirstInvalid (fields_of chart.lines) card fault

-- What a cause says of the text of the deck and of the valid cards that were read before it was met. That a device has failed is said of
-- the device.
abbrev pub HasCause : Chart → (text : List ℕ) → (cards : List (List ℕ)) → StreamCause → Type 0
HasCause chart text cards (cause.Card fault) = IsUnreadNext text cards fault
HasCause chart text cards (cause.Invalid fault number) = IsInvalidNext chart text cards fault number
HasCause chart text cards (cause.Misfit misfit) = first_of (misfits chart.lines cards) ≡ Some (told misfit)
HasCause chart text cards cause.Write = ⊤
HasCause chart text cards cause.Memory = ⊤

-- A cause that a text has, whatever devices and memory do.
abbrev pub IsOfText : StreamCause → Type 0
IsOfText (cause.Card (read.Deck fault)) = ⊤
IsOfText (cause.Invalid fault number) = ⊤
IsOfText (cause.Misfit misfit) = ⊤
IsOfText other = ⊥

-- whether a run that stops for a cause has written all lines before those of a card, and no byte more
abbrev pub stops_between_cards : StreamCause → Bool
stops_between_cards cause.Write = false
stops_between_cards cause.Memory = false
stops_between_cards other = true

-- of how many cards it has then written the lines: of all that were read but the last, and at a misfit of those before its own card
abbrev pub cards_written : List (List ℕ) → StreamCause → ℕ
cards_written cards (cause.Misfit misfit) = misfit.card - 1
cards_written cards other = length cards - 1
