-- What is changed in the bytes of a text that is folded, how often, and where first.
use Rattle.std.specs.Prelude.{◌≡◌, ℕ, ◌+◌, Bool, List, [], ◌∷◌, Option, Some, None, if◌then◌else◌, ◌==◌, is_some, true, false}
use Rattle.std.specs.Char.{is_ascii_lowercase}
use Rattle.card_code.specs.CardCode.{rows_of}
use Rattle.cli_decks.specs.declared.folding.changes.Change.{Change}
use Rattle.cli_decks.specs.declared.folding.changes.Change.TheVariants as change
use Rattle.cli_decks.specs.declared.folding.changes.TextPlace.{TextPlace}
use Rattle.cli_decks.specs.declared.folding.changes.Tally.{Tally}

-- A byte that a card has stays. A small letter becomes its capital, a tab becomes blanks, and any other byte is replaced.
abbrev pub change_of : ℕ → Option Change
change_of byte =
    if is_some (rows_of byte) then None else
    if is_ascii_lowercase byte then Some change.Capital else
    if byte == 9 then Some change.Blanks else
    Some change.Replaced

-- whether two kinds of change are one
abbrev pub is_same : Change → Change → Bool
is_same change.Capital change.Capital = true
is_same change.Blanks change.Blanks = true
is_same change.Replaced change.Replaced = true
is_same one other = false

-- whether a change, if there is one, is of a kind
abbrev pub is_of_kind : Change → Option Change → Bool
is_of_kind kind None = false
is_of_kind kind (Some made) = is_same kind made

-- whether a byte is changed so
abbrev pub is_changed : Change → ℕ → Bool
is_changed kind byte = is_of_kind kind (change_of byte)

-- how many bytes of a line are changed so
abbrev pub count_in : Change → List ℕ → ℕ
count_in kind [] = 0
count_in kind (byte ∷ bytes) = if is_changed kind byte then 1 + count_in kind bytes else count_in kind bytes

-- how many bytes of lines are changed so
abbrev pub count_of : Change → List (List ℕ) → ℕ
count_of kind [] = 0
count_of kind (line ∷ lines) = count_in kind line + count_of kind lines

-- the column of the first such byte of a line, of which the first byte has this column
abbrev pub first_in : Change → (column : ℕ) → List ℕ → Option ℕ
first_in kind column [] = None
first_in kind column (byte ∷ bytes) = if is_changed kind byte then Some column else first_in kind (column + 1) bytes

-- a place, or else another
abbrev pub or_else : Option TextPlace → Option TextPlace → Option TextPlace
or_else None other = other
or_else (Some place) other = Some place

-- the place of a column of the line with this number
abbrev pub place_in : (line : ℕ) → Option ℕ → Option TextPlace
place_in line None = None
place_in line (Some column) = Some (record { line = line; column = column })

-- the place of the first such byte of lines, of which the first line has this number
abbrev pub first_of : Change → (number : ℕ) → List (List ℕ) → Option TextPlace
first_of kind number [] = None
first_of kind number (line ∷ lines) = or_else (place_in number (first_in kind 1 line)) (first_of kind (number + 1) lines)

-- so often is a kind of change made in lines, and there first
pub record IsTally (kind : Change) (lines : List (List ℕ)) (tally : Tally) : Type 0 where
  pub counted : tally.count ≡ count_of kind lines
  pub first : tally.first ≡ first_of kind 1 lines
