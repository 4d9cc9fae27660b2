-- Which text shows what is told of a deck: each fault's line, and below it the card as it stands, with a mark under the column at fault and the
-- names of the fields that have it; of a field that isn't valid also what is wrong with that column.
use Rattle.std.specs.Prelude.{◌≡◌, ◌<◌, ◌==◌, ℕ, length, List, [], ◌∷◌, ◌++◌, Option, Some, None, if◌then◌else◌}
use Rattle.std.specs.List.{flat_map}
use Rattle.cli_sheets.specs.BadColumns.Columns.{bad_among}
use Rattle.cli_sheets.specs.BadColumns.Words.{bad_words}
use Rattle.cli_sheets.specs.declared.bad_columns.column.BadColumn.{BadColumn}
use Rattle.card_code.specs.Deck.{line_at}
use Rattle.card_code.specs.Lines.{lines_of}
use Rattle.card_code.specs.MostCards.{most_cards}
use Rattle.chart_lines.specs.ChartsWords.Chart.{Chart}
use Rattle.cli_decks.specs.CheckCalls.DeckChecks.Endings.{IsFine}
use Rattle.cli_decks.specs.CheckCalls.DeckChecks.Fine.{fine_told}
use Rattle.cli_decks.specs.CheckCalls.DeckChecks.Listings.{IsListing}
use Rattle.fault_lines.specs.FaultsWords.Lines.{fault_line}
use Rattle.fault_lines.specs.declared.faults.fault.Fault.{Fault}
use Rattle.fault_lines.specs.declared.faults.fault.Fault.TheVariants as fault
use Rattle.chart_line_rules.specs.FieldRules.Fields.{fields_of}
use Rattle.cli_sheets.specs.SheetsWords.Marks.{marked_line}

-- a line of a deck with a mark under a column, or under the one that is at fault in a field, with what is wrong there
abbrev pub marked_at : Chart → (line : List ℕ) → (column : ℕ) → Option BadColumn → List ℕ
marked_at chart line column None = marked_line line column (fields_of chart.lines)
marked_at chart line column (Some bad) = marked_line line bad.column (fields_of chart.lines) ++ bad_words bad

-- the column at fault of the field that a fault of a number names by its first column; a fault 2 names no field
unfoldable pub column_at_fault : Chart → (line : List ℕ) → (number column : ℕ) → Option BadColumn
column_at_fault chart line number column = if number == 2 then None else bad_among column line (fields_of chart.lines)

-- A line of a deck with a mark on the card that a fault names: under its column, or the one at fault in its field, or of a card that is too long
-- under the first one behind the card.
abbrev pub marked : Chart → (line : List ℕ) → Fault → List ℕ
marked chart line (fault.Column number card column) = marked_at chart line column (column_at_fault chart line number column)
marked chart line (fault.Card number card) = marked_at chart line 81 None
marked chart line other = []

-- what is told of a fault of a card, given the card's line
abbrev pub entry_told : Chart → (line : List ℕ) → Fault → List ℕ
entry_told chart line told = fault_line told ++ marked chart line told

-- the number of the card that a fault names
abbrev pub card_named : Fault → ℕ
card_named (fault.Column number card column) = card
card_named (fault.Card number card) = card
card_named other = 0

-- the same with the line that a deck has there
abbrev pub entry_in : Chart → (deck : List ℕ) → Fault → List ℕ
entry_in chart deck told = entry_told chart (line_at deck (card_named told)) told

-- what is told of faults of a deck
abbrev pub entries_told : Chart → (deck : List ℕ) → List Fault → List ℕ
entries_told chart deck told = flat_map (entry_in chart deck) told

-- These are the faults of a deck, the first one and others, and they are shown.
pub record ShowsFaults (chart : Chart) (deck : List ℕ) (first : Fault) (text : List ℕ) : Type 0 where
  pub later : List Fault
  pub listing : IsListing chart deck (first ∷ later)
  pub shown : text ≡ entries_told chart deck (first ∷ later)

-- Nothing is told of a deck but which cards it has.
pub record ShowsNone (chart : Chart) (deck text : List ℕ) : Type 0 where
  pub cards : List (List ℕ)
  pub fine : IsFine chart deck cards
  pub shown : text ≡ fine_told cards

-- what is told of a deck, by the first fault
abbrev pub IsShown : Chart → (deck : List ℕ) → Option Fault → (text : List ℕ) → Type 0
IsShown chart deck None text = ShowsNone chart deck text
IsShown chart deck (Some first) text = ShowsFaults chart deck first text

-- a deck has more than 999,999 lines
abbrev pub IsTooLong : List ℕ → Type 0
IsTooLong deck = most_cards < length (lines_of deck)
