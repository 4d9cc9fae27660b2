-- What a word is that stands where a hub is wanted: its letters are the bytes before its first digit or point, and its numbers stand
-- behind them.
use Rattle.std.specs.Prelude.{ℕ, ◌+◌, ◌&&◌, ◌||◌, Bool, true, false, not, List, [], ◌∷◌, ◌++◌, Option, Some, None, is_some, take, drop, find, length, nat_lt, if◌then◌else◌}
use Rattle.std.specs.Char.{is_ascii_digit}
use Rattle.std.specs.List.{prefix_len}
use Rattle.hubs.specs.HubTable.HubTable.{row_of, exit_kinds, entry_kinds}
use Rattle.hubs.specs.HubTable.Places.{has_as_many, place_of}
use Rattle.hubs.specs.declared.hub_table.letters.Letters.{Letters}
use Rattle.hubs.specs.declared.hub_table.shape.Numbers.{Numbers}
use Rattle.hubs.specs.declared.hub_table.shape.Numbers.TheVariants.{Bare, One, Two, Three}
use Rattle.fault_slips.specs.LineSlips.Near.{is_near}
use Rattle.chart_lines.specs.TokensWords.NumberReading.{number_of}
use Rattle.chart_lines.specs.TokensWords.Steps.{◌>>=◌}
use Rattle.wiring_text.specs.WiringReader.Reading.{is_point, letters_spelled}
use Rattle.fault_wiring_slips.specs.declared.hub.HubWord.{HubWord}
use Rattle.fault_wiring_slips.specs.declared.hub.HubWord.TheVariants as hub

-- any byte but a point
abbrev pub is_pointless : ℕ → Bool
is_pointless byte = not (is_point byte)

-- a point or a digit
abbrev pub is_numeric : ℕ → Bool
is_numeric byte = is_point byte || is_ascii_digit byte

-- any other byte
abbrev pub is_lettered : ℕ → Bool
is_lettered byte = not (is_numeric byte)

-- the letters of a word
abbrev pub letters_in : List ℕ → List ℕ
letters_in word = take (prefix_len is_lettered word) word

-- what stands behind them
abbrev pub tail_of : List ℕ → List ℕ
tail_of word = drop (prefix_len is_lettered word) word

-- the last of three numbers
abbrev pub from_three : ℕ → ℕ → List ℕ → Option Numbers
from_three l m text = do
  n ← number_of text
  Some (Three l m n)

-- what stands behind two numbers: nothing, or a point and another
abbrev pub behind_two : ℕ → ℕ → List ℕ → Option Numbers
behind_two l m [] = Some (Two l m)
behind_two l m (point ∷ text) = from_three l m text

-- the numbers from the second on
abbrev pub from_two : ℕ → List ℕ → Option Numbers
from_two l text = do
  m ← number_of (take (prefix_len is_pointless text) text)
  behind_two l m (drop (prefix_len is_pointless text) text)

-- what stands behind a number: nothing, or a point and others
abbrev pub behind_one : ℕ → List ℕ → Option Numbers
behind_one l [] = Some (One l)
behind_one l (point ∷ text) = from_two l text

-- numbers with points between them
abbrev pub from_one : List ℕ → Option Numbers
from_one text = do
  l ← number_of (take (prefix_len is_pointless text) text)
  behind_one l (drop (prefix_len is_pointless text) text)

-- whether a point is missing before the first number
abbrev pub is_unpointed : List ℕ → Bool
is_unpointed [] = false
is_unpointed (byte ∷ bytes) = not (is_point byte)

-- the numbers behind letters, with or without a point before the first one
abbrev pub numbers_in : List ℕ → Option Numbers
numbers_in [] = Some Bare
numbers_in (byte ∷ bytes) = if is_point byte then from_one bytes else from_one (byte ∷ bytes)

-- whether the panel has a hub of these letters and numbers
abbrev pub is_there : Letters → Option Numbers → Bool
is_there letters None = false
is_there letters (Some numbers) = is_some (place_of (row_of letters).shape numbers)

-- a word of letters that hubs have
abbrev pub numbered : Letters → Option Numbers → HubWord
numbered letters None = hub.Misnumbered letters
numbered letters (Some numbers) =
    if not (has_as_many (row_of letters).shape numbers) then hub.Misnumbered letters
    else if is_some (place_of (row_of letters).shape numbers) then hub.There letters
    else hub.OutOfRange letters

abbrev pub lettered : Letters → List ℕ → HubWord
lettered letters tail = if is_unpointed tail then hub.Misnumbered letters else numbered letters (numbers_in tail)

-- the first letters of the hub table that are a letter away
unfoldable pub near_kind : List ℕ → Option Letters
near_kind word = find (λ letters. is_near (row_of letters).spelled word) (exit_kinds ++ entry_kinds)

-- whether letters are a letter away, and the panel has their hub of the numbers that stand behind
abbrev pub is_meant : List ℕ → List ℕ → Letters → Bool
is_meant word tail letters = is_near (row_of letters).spelled word && is_there letters (numbers_in tail)

-- the first such letters
unfoldable pub meant_kind : List ℕ → List ℕ → Option Letters
meant_kind word tail = find (is_meant word tail) (exit_kinds ++ entry_kinds)

-- these, or else letters that are a letter away
abbrev pub nearest_kind : Option Letters → List ℕ → Option Letters
nearest_kind (Some letters) word = Some letters
nearest_kind None word = near_kind word

-- such letters of a word of two letters or more; of a single letter nothing is left to know it by
unfoldable pub near_letters : List ℕ → List ℕ → Option Letters
near_letters word tail = if nat_lt (length word) 2 then None else nearest_kind (meant_kind word tail) word

-- a word of letters that no hub has
abbrev pub misspelt : Option Letters → HubWord
misspelt (Some letters) = hub.Misspelt letters
misspelt None = hub.Unknown

abbrev pub spelled_by : Option Letters → List ℕ → HubWord
spelled_by (Some letters) word = lettered letters (tail_of word)
spelled_by None word = misspelt (near_letters (letters_in word) (tail_of word))

-- what a word is
unfoldable pub hub_word : List ℕ → HubWord
hub_word word = spelled_by (letters_spelled (letters_in word)) word

-- whether it is a hub as it is written, on the panel or not
abbrev pub is_name : HubWord → Bool
is_name (hub.There letters) = true
is_name (hub.OutOfRange letters) = true
is_name other = false

-- how many bytes of a word are letters and the digits and points behind them
abbrev pub second_place : List ℕ → ℕ
second_place word = prefix_len is_lettered word + prefix_len is_numeric (tail_of word)

-- whether a word is two hubs, one behind the other
unfoldable pub is_two : List ℕ → Bool
is_two word = is_name (hub_word (take (second_place word) word)) && is_name (hub_word (drop (second_place word) word))
