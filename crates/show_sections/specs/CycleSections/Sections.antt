-- A trace as markup: an element for each of its cycles, in their order, with links to the next cycle and to the one before.
use Rattle.std.specs.Prelude.{ℕ, ◌+◌, ◌-◌, Bool, List, [], ◌∷◌, ◌++◌, codes, decimal, if◌then◌else◌, length, nat_le, nat_lt}
use Rattle.card_code.specs.Lines.{lines_of}
use Rattle.show_drawings.specs.MarkupWords.Escapes.{escaped}
use Rattle.show_sections.specs.CycleSections.Rows.{rows_of}

-- a link to the element of a cycle, up to its words; cycles are counted from 1
unfoldable pub link_open : ℕ → List ℕ
link_open number = codes "<a href=\"#cycle" ++ decimal number ++ codes "\">"

-- the link to the next cycle; the last one that is shown has none
unfoldable pub next_text : (number shown : ℕ) → List ℕ
next_text number shown = if nat_lt number shown then link_open (number + 1) ++ codes "next cycle</a> " else []

-- the link to the cycle before; the first one that is shown has none
unfoldable pub before_text : (number first : ℕ) → List ℕ
before_text number first = if nat_lt first number then link_open (number - 1) ++ codes "cycle before</a> " else []

-- the link to the report
unfoldable pub back_text : List ℕ
back_text = codes "<a href=\"#report\">back to the report</a> "

-- which of all cycles this one is
unfoldable pub place_text : (number all : ℕ) → List ℕ
place_text number all = codes "cycle " ++ decimal number ++ codes " of " ++ decimal all

-- what stands above the words of an element, where the first cycle that is shown has this number, and the last one that
unfoldable pub links_text : (number first shown all : ℕ) → List ℕ
links_text number first shown all = next_text number shown ++ before_text number first ++ back_text ++ place_text number all

-- What is said of a cycle of which nothing is told but its name. All else begins at the seventeenth place of its line: the card that the run-in
-- reads, each counter that is under a control or that a carry entered, each storage unit that holds other characters behind the cycle, each
-- pilot that is transferred, and the line that was printed.
abbrev pub is_quiet : List ℕ → Bool
is_quiet line = nat_le (length line) 16

unfoldable pub quiet_words : List ℕ
quiet_words = codes "<p>In this cycle no line was printed, no counter did anything, no storage unit took up other characters, and no pilot was transferred.</p>"

abbrev pub quiet_text : List ℕ → List ℕ
quiet_text line = if is_quiet line then quiet_words else []

-- the words of an element: the line of its cycle, in rows
unfoldable pub rows_text : List ℕ → List ℕ
rows_text line = codes "<pre>" ++ escaped (rows_of line) ++ codes "</pre>"

unfoldable pub words_text : List ℕ → List ℕ
words_text line = rows_text line ++ quiet_text line

-- the front of the element of a cycle, with its name, and the end
unfoldable pub section_open : ℕ → List ℕ
section_open number = codes "<section id=\"cycle" ++ decimal number ++ codes "\">"

unfoldable pub section_close : List ℕ
section_close = codes "</section>\n"

-- the element of a cycle: its number, those of the first and of the last one that are shown, how many there are, and its line
unfoldable pub section_text : (number first shown all : ℕ) → List ℕ → List ℕ
section_text number first shown all line =
    section_open number ++ links_text number first shown all ++ words_text line ++ section_close

-- the elements of cycles that follow one another, of which the first has this number
abbrev pub sections_text : (number first shown all : ℕ) → List (List ℕ) → List ℕ
sections_text number first shown all [] = []
sections_text number first shown all (line ∷ lines) =
    section_text number first shown all line ++ sections_text (number + 1) first shown all lines

-- The elements of the cycles of a part of a trace, with a line for each: so many cycles come before them, and so many there are in all.
unfoldable pub cycles_text : (before all : ℕ) → List ℕ → List ℕ
cycles_text before all part =
    let lines = lines_of part in sections_text (before + 1) (before + 1) (before + length lines) all lines
