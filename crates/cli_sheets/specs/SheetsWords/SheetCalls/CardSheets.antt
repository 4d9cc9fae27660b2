-- A card of a deck with what the fields of a planning chart read on it, from the bytes of both, and why there is none.
use Rattle.std.specs.Prelude.{◌≡◌, ◌⊎◌, ◌<◌, ◌-◌, ℕ, List, [], ◌++◌, Option, Some, None, IfSome, codes, decimal, length, slice_get, true, false}
use Rattle.std.specs.Io.KnownBytes.{Appends}
use Rattle.cli_sheets.specs.BadColumns.Columns.{bad_among}
use Rattle.cli_sheets.specs.BadColumns.Words.{bad_words}
use Rattle.cli_sheets.specs.declared.bad_columns.column.BadColumn.{BadColumn}
use Rattle.card_code.specs.Deck.{HasLineFault, IsCardOf}
use Rattle.card_code.specs.Lines.{lines_of}
use Rattle.card_code.specs.declared.deck.DeckFault.{DeckFault}
use Rattle.card_code.specs.declared.deck.DeckFault.TheVariants as deck
use Rattle.chart_rules.specs.ValidCard.{IsFirstInvalid, IsValidCard}
use Rattle.chart_rules.specs.declared.card.CardFault.{CardFault}
use Rattle.chart_rules.specs.declared.card.CardFault.TheVariants as invalid_as
use Rattle.chart_lines.specs.ChartsWords.Chart.{Chart}
use Rattle.fault_lines.specs.FaultsWords.Lines.{fault_line}
use Rattle.fault_lines.specs.FaultsWords.ToldFaults.{deck_told, of_card, run_told}
use Rattle.fault_lines.specs.declared.faults.fault.Fault.{Fault}
use Rattle.fault_lines.specs.declared.faults.fault.Fault.TheVariants as fault
use Rattle.chart_line_rules.specs.FieldRules.Fields.{fields_of}
use Rattle.cli_sheets.specs.SheetsWords.Fields.{fields_told}
use Rattle.chart_lines.specs.declared.charts.statement.Field.{Field}
use Rattle.cli_sheets.specs.SheetsWords.Marks.{column_mark, marked_line}
use Rattle.cli_sheets.specs.SheetsWords.Rulers.{column_ruler}
use Rattle.cli_sheets.specs.SheetsWords.SheetCalls.Charts.{HasLawful, ReadsLawful, RefusesLines}

-- the number of a card, and the ruler of the columns
abbrev pub head_told : (number : ℕ) → List ℕ
head_told number = codes "card " ++ decimal number ++ codes "\n" ++ column_ruler

-- and under them the card as it stands in the deck
abbrev pub card_told : (number : ℕ) → (line : List ℕ) → List ℕ
card_told number line = head_told number ++ line ++ codes "\n"

-- the column at fault of a line that is no card: of a line that is too long the first one behind the card
abbrev pub column_at_fault : DeckFault → ℕ
column_at_fault (deck.NoSuchCharacter card column) = column
column_at_fault other = 81

-- what is told of a card that is valid
abbrev pub valid_told : Chart → (number : ℕ) → (line card : List ℕ) → List ℕ
valid_told chart number line card = card_told number line ++ fields_told true card (fields_of chart.lines)

-- the first column of the field that a fault names
abbrev pub first_named : CardFault → ℕ
first_named (invalid_as.NotText column) = column
first_named (invalid_as.NotAmount column) = column

-- a mark under a column that is at fault, with the names of the fields that read it, and what is wrong there
abbrev pub bad_told : List Field → Option BadColumn → List ℕ
bad_told fields None = []
bad_told fields (Some bad) = column_mark bad.column fields ++ bad_words bad

-- of one that isn't
abbrev pub invalid_told : Chart → (number : ℕ) → (line card : List ℕ) → CardFault → List ℕ
invalid_told chart number line card cause =
    card_told number line ++ fields_told false card (fields_of chart.lines)
    ++ bad_told (fields_of chart.lines) (bad_among (first_named cause) line (fields_of chart.lines))
    ++ fault_line (run_told (of_card cause number))

-- and of a line that is no card
abbrev pub unpunched_told : Chart → (number : ℕ) → (line : List ℕ) → DeckFault → List ℕ
unpunched_told chart number line cause =
    head_told number ++ marked_line line (column_at_fault cause) (fields_of chart.lines) ++ fault_line (deck_told cause)

-- What is told of a line. Where it is a card that is valid for the chart the amounts have values. Where the card isn't valid they have none,
-- the column at fault of the first field that isn't valid is marked, with what is wrong there, and the fault ends the sheet. A line that is no
-- card is shown with a mark under the column at fault and the names of the fields that have this column, and its fault ends the sheet.
pub data IsSheet (chart : Chart) (number : ℕ) (line sheet : List ℕ) : Type 0 where
  valid : (card : List ℕ) → IsCardOf line card → IsValidCard chart card → sheet ≡ valid_told chart number line card
      → IsSheet chart number line sheet
  invalid : (card : List ℕ) (cause : CardFault) → IsCardOf line card → IsFirstInvalid (fields_of chart.lines) card cause
      → sheet ≡ invalid_told chart number line card cause → IsSheet chart number line sheet
  unpunched : (cause : DeckFault) → HasLineFault line number cause → sheet ≡ unpunched_told chart number line cause
      → IsSheet chart number line sheet

-- a text gains the sheet of a card
pub record GainsSheet (chart : Chart) (number : ℕ) (line old new : List ℕ) : Type 0 where
  pub sheet : List ℕ
  pub is_sheet : IsSheet chart number line sheet
  pub gained : new ≡ old ++ sheet

-- the line of a deck with a number, from 1
abbrev pub IsLine : List ℕ → ℕ → List ℕ → Type 0
IsLine deck number line = (0 < number) × (slice_get (lines_of deck) (number - 1) ≡ Some line)

-- a deck has no line with a number
abbrev pub HasNoLine : List ℕ → ℕ → Type 0
HasNoLine deck number = (number ≡ 0) ⊎ (length (lines_of deck) < number)

-- the sheet of a card of a deck by a chart
pub record IsSheetIn (chart : Chart) (deck : List ℕ) (number : ℕ) (answer : List ℕ) : Type 0 where
  pub line : List ℕ
  pub is_line : IsLine deck number line
  pub is_sheet : IsSheet chart number line answer

-- the same by the text of the chart
pub record IsSheetOf (text deck : List ℕ) (number : ℕ) (answer : List ℕ) : Type 0 where
  pub chart : Chart
  pub reads : ReadsLawful text chart
  pub is_sheet : IsSheetIn chart deck number answer

-- the sheet of a card of the deck that was read was written after what was there
pub record PrintsFields (text : List ℕ) (deck : Option (List ℕ)) (number : ℕ) (old new : Option (List ℕ)) : Type 0 where
  pub read : List ℕ
  pub is_deck : IfSome deck (λ known. read ≡ known)
  pub answer : List ℕ
  pub is_sheet : IsSheetOf text read number answer
  pub written : Appends old new answer

-- a deck has no such card, and this is told
pub record LacksCard (deck : List ℕ) (number : ℕ) (told : Fault) : Type 0 where
  pub none : HasNoLine deck number
  pub named : told ≡ fault.Card 96 number

-- Why no sheet was printed: the chart is refused; or it isn't, and the deck can't be read or has no such card; and nothing was printed.
-- Or the output can't be written, or memory ran out.
pub data StopsFields (text : List ℕ) (deck : Option (List ℕ)) (number : ℕ) (told unreadable : Fault) (Unprinted : Type 0) : Type 0 where
  refused : RefusesLines text told → Unprinted → StopsFields text deck number told unreadable Unprinted
  unread : HasLawful text → told ≡ unreadable → Unprinted → StopsFields text deck number told unreadable Unprinted
  lacking : HasLawful text → (read : List ℕ) → IfSome deck (λ known. read ≡ known) → LacksCard read number told → Unprinted
      → StopsFields text deck number told unreadable Unprinted
  unwritten : told ≡ fault.Write → StopsFields text deck number told unreadable Unprinted
  memory_wanting : told ≡ fault.Memory → StopsFields text deck number told unreadable Unprinted
