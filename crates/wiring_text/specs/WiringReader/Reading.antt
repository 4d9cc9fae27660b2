-- What the readers of tokens answer, as functions of lists: the name of a hub, a jack, and what the tokens of a line say.
-- These are steps between the code and the grammar: read_setup promises the relations of WiringText and WiringFaults, in wiring_text.
use Rattle.std.specs.Prelude.{ℕ, ◌==◌, ◌&&◌, Bool, true, false, List, [], ◌∷◌, ◌++◌, Option, Some, None, option_map, find, if◌then◌else◌, nat_le, codes}
use Rattle.std.specs.List.{slice_split, list_any}
use Rattle.std.specs.Str.{bytes_eq}
use denote.Ref.{Bor}
use Rattle.hubs.specs.HubTable.HubTable.{row_of, exit_kinds, entry_kinds}
use Rattle.hubs.specs.Jacks.{is_same_jack}
use Rattle.hubs.specs.HubTable.Places.{has_as_many}
use Rattle.hubs.specs.declared.jack.Jack.{Jack}
use Rattle.hubs.specs.declared.jack.Jack.TheVariants as jacks
use Rattle.hubs.specs.declared.hub_table.letters.Letters.{Letters}
use Rattle.hubs.specs.declared.hub_table.shape.Numbers.{Numbers}
use Rattle.hubs.specs.declared.hub_table.shape.Numbers.TheVariants.{Bare, One, Two, Three}
use Rattle.chart_lines.specs.TokensWords.NumberReading.{number_of, number_to}
use Rattle.chart_lines.specs.TokensWords.Steps.{◌>>=◌}
use Rattle.wiring_text.specs.HubNames.{carry_entry, carry_exit}
use Rattle.wiring_text.specs.Statements.{may_be_wired}
use Rattle.wiring_text.specs.declared.statement.FormNumbers.{FormNumbers}
use Rattle.wiring_text.specs.declared.statement.HubName.{HubName}
use Rattle.wiring_text.specs.declared.statement.Statement.{Statement}
use Rattle.wiring_text.specs.declared.statement.Statement.TheVariants.{Stop, Plug, Wire}
use Rattle.wiring_text.specs.declared.statement.Version.{Version}
use Rattle.wiring_text.specs.declared.statement.Version.TheVariants.{First, Second}

-- a point's byte
abbrev pub is_point : ℕ → Bool
is_point byte = byte == 46

-- the pieces after the first point, if there is one
abbrev pub pieces_after : Option (Bor (List ℕ)) → List (List ℕ)
pieces_after None = []
pieces_after (Some bytes) = slice_split is_point bytes.now

-- the letters that are spelled so
unfoldable pub letters_spelled : List ℕ → Option Letters
letters_spelled token = find (λ letters. bytes_eq (row_of letters).spelled token) (exit_kinds ++ entry_kinds)

-- the numbers that pieces spell, after three, two, one, and none that are read already
abbrev pub numbers_from_three : ℕ → ℕ → ℕ → List (List ℕ) → Option Numbers
numbers_from_three l m n [] = Some (Three l m n)
numbers_from_three l m n (piece ∷ pieces) = None

abbrev pub numbers_from_two : ℕ → ℕ → List (List ℕ) → Option Numbers
numbers_from_two l m [] = Some (Two l m)
numbers_from_two l m (piece ∷ pieces) = do
  n ← number_of piece
  numbers_from_three l m n pieces

abbrev pub numbers_from_one : ℕ → List (List ℕ) → Option Numbers
numbers_from_one l [] = Some (One l)
numbers_from_one l (piece ∷ pieces) = do
  m ← number_of piece
  numbers_from_two l m pieces

abbrev pub numbers_spelled : List (List ℕ) → Option Numbers
numbers_spelled [] = Some Bare
numbers_spelled (piece ∷ pieces) = do
  l ← number_of piece
  numbers_from_one l pieces

-- the name of these letters and numbers, where hubs of these letters have as many
abbrev pub fitting_name : Letters → Numbers → Option HubName
fitting_name letters numbers =
    if has_as_many (row_of letters).shape numbers then Some (record { letters = letters; numbers = numbers }) else None

abbrev pub name_of_pieces : List (List ℕ) → Option HubName
name_of_pieces [] = None
name_of_pieces (spelled ∷ pieces) = do
  letters ← letters_spelled spelled
  numbers ← numbers_spelled pieces
  fitting_name letters numbers

-- the name that a token is
unfoldable pub name_spelled : List ℕ → Option HubName
name_spelled token = name_of_pieces (slice_split is_point token)

-- the jack of a word and a number
unfoldable pub numbered_jack : List ℕ → List ℕ → Option Jack
numbered_jack word token =
    if bytes_eq word (codes "TOTAL") then option_map jacks.Total (number_to 4 token)
    else if bytes_eq word (codes "HEAD") then option_map jacks.Head (number_to 3 token)
    else if bytes_eq word (codes "LINK") then option_map jacks.Link (number_to 120 token)
    else if bytes_eq word (codes "SUPPRESS") then option_map jacks.Suppress (number_to 120 token)
    else if bytes_eq word (codes "SYMBOL") then option_map jacks.Symbol (number_to 120 token)
    else None

-- the jack that tokens name
unfoldable pub jack_of : List (List ℕ) → Option Jack
jack_of [] = None
jack_of (word ∷ []) = if bytes_eq word (codes "LIST") then Some jacks.List else None
jack_of (word ∷ token ∷ []) = numbered_jack word token
jack_of (word ∷ token ∷ next ∷ others) = None

-- the stop that tokens name
unfoldable pub stop_of : List (List ℕ) → Option Statement
stop_of [] = None
stop_of (channel ∷ []) = None
stop_of (channel ∷ line ∷ []) = do
  c ← number_to 11 channel
  n ← number_of line
  if nat_le 2 c then Some (Stop c n) else None
stop_of (channel ∷ line ∷ next ∷ others) = None

-- the wire that tokens name, where the version writes it so
unfoldable pub wire_of : Version → List (List ℕ) → Option Statement
wire_of version [] = None
wire_of version (from ∷ []) = None
wire_of version (from ∷ to ∷ []) = do
  exit ← name_spelled from
  entry ← name_spelled to
  if may_be_wired version exit entry then Some (Wire exit entry) else None
wire_of version (from ∷ to ∷ next ∷ others) = None

-- the ring of a counter group with these numbers
abbrev pub ring_numbered : Numbers → Option Statement
ring_numbered (Two width number) = Some (Wire (carry_exit width number) (carry_entry width number))
ring_numbered other = None

-- the ring that tokens name
unfoldable pub ring_of : List (List ℕ) → Option Statement
ring_of [] = None
ring_of (group ∷ []) = do
  numbers ← numbers_spelled (slice_split is_point group)
  ring_numbered numbers
ring_of (group ∷ next ∷ others) = None

-- the wire that couples the groups of 8 positions that tokens name
unfoldable pub couple_of : List (List ℕ) → Option Statement
couple_of [] = None
couple_of (from ∷ []) = None
couple_of (from ∷ to ∷ []) = do
  m ← number_of from
  n ← number_of to
  if m == n then None else Some (Wire (carry_exit 8 m) (carry_entry 8 n))
couple_of (from ∷ to ∷ next ∷ others) = None

-- the carry wire that a word and tokens name, in version 2 alone
unfoldable pub carry_of : Version → List ℕ → List (List ℕ) → Option Statement
carry_of First word operands = None
carry_of Second word operands =
    if bytes_eq word (codes "RING") then ring_of operands
    else if bytes_eq word (codes "COUPLE") then couple_of operands
    else None

-- what tokens say
unfoldable pub statement_of : Version → List (List ℕ) → Option Statement
statement_of version [] = None
statement_of version (word ∷ operands) =
    if bytes_eq word (codes "STOP") then stop_of operands
    else if bytes_eq word (codes "JACK") then option_map Plug (jack_of operands)
    else if bytes_eq word (codes "WIRE") then wire_of version operands
    else carry_of version word operands

-- the form that tokens name
unfoldable pub form_of : List (List ℕ) → Option FormNumbers
form_of [] = None
form_of (word ∷ []) = None
form_of (word ∷ size ∷ []) = None
form_of (word ∷ size ∷ top ∷ []) = None
form_of (word ∷ size ∷ top ∷ bottom ∷ []) = if bytes_eq word (codes "FORM") then (do
  lines ← number_of size
  first ← number_of top
  overflow ← number_of bottom
  Some (record { lines = lines; first = first; overflow = overflow })) else None
form_of (word ∷ size ∷ top ∷ bottom ∷ next ∷ others) = None

-- whether numbers are the same
abbrev pub is_same_numbers : Numbers → Numbers → Bool
is_same_numbers Bare Bare = true
is_same_numbers (One l) (One l') = l == l'
is_same_numbers (Two l m) (Two l' m') = (l == l') && (m == m')
is_same_numbers (Three l m n) (Three l' m' n') = (l == l') && (m == m') && (n == n')
is_same_numbers one other = false

-- whether names are the same
abbrev pub is_same_name : HubName → HubName → Bool
is_same_name one other =
    bytes_eq (row_of one.letters).spelled (row_of other.letters).spelled && is_same_numbers one.numbers other.numbers

-- whether statements are the same
abbrev pub is_same_statement : Statement → Statement → Bool
is_same_statement (Stop c n) (Stop c' n') = (c == c') && (n == n')
is_same_statement (Plug one) (Plug other) = is_same_jack one other
is_same_statement (Wire exit entry) (Wire exit' entry') = is_same_name exit exit' && is_same_name entry entry'
is_same_statement one other = false

-- whether a statement is among those that are said
unfoldable pub is_said : List Statement → Statement → Bool
is_said said statement = list_any (is_same_statement statement) said
