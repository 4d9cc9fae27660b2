-- The entry of a line that no form derives: it marks the first word that no form has behind those before it, or the last word of a front of a
-- form. Of a line of all words of a form it marks a word behind which a space is missing, or the word that version 1 doesn't have.
use Rattle.std.specs.Prelude.{ℕ, ◌-◌, ◌==◌, not, Bool, false, List, [], ◌∷◌, ◌++◌, Option, Some, None, codes, find, slice_get, if◌then◌else◌}
use Rattle.std.specs.Str.{bytes_eq}
use Rattle.fault_slips.specs.LineMarks.Entries.{below, head_line, shown}
use Rattle.fault_slips.specs.LineMarks.Spans.{span_of, word}
use Rattle.fault_slips.specs.LineSlips.Forms.{form_words}
use Rattle.fault_slips.specs.LineSlips.LineEntries.{line_entry}
use Rattle.fault_slips.specs.WordSlips.Halts.{all_places, halt_of}
use Rattle.fault_slips.specs.WordSlips.Phrases.{phrase}
use Rattle.fault_slips.specs.WordSlips.Stages.{may_end}
use Rattle.fault_slips.specs.declared.word_slips.halt.Halt.{Halt}
use Rattle.fault_slips.specs.declared.wording.TheConstants as wording

-- what is wrong, in some words and others
unfoldable pub wrong_line : List ℕ → List ℕ → List ℕ
wrong_line words others = below (words ++ others)

-- that, and below it the form of the first word of a line
unfoldable pub wrong_lines : List ℕ → List ℕ → List ℕ → List ℕ
wrong_lines line words others = wrong_line words others ++ below (form_words (word 0 line))

-- the entry that marks a word of a line
unfoldable pub marked_entry : (number : ℕ) → (line : List ℕ) → (place : ℕ) → (words others : List ℕ) → List ℕ
marked_entry number line place words others =
    head_line number 13 (codes "NotALine") ++ shown line (span_of place line) ++ wrong_lines line words others

-- whether what stands behind a word is no space, and no end of the line
abbrev pub is_no_space : Option ℕ → Bool
is_no_space None = false
is_no_space (Some byte) = not (byte == 32)

-- whether a space is missing behind a word of a line
abbrev pub is_joined : List ℕ → ℕ → Bool
is_joined line place = is_no_space (slice_get line (span_of place line).end)

-- the entry of a line whose words are those of a form, by the first of them behind which a space is missing
unfoldable pub whole_entry : ℕ → List ℕ → Option ℕ → List ℕ
whole_entry number line (Some place) = marked_entry number line place wording.A_SPACE_BELONGS_BEHIND_THIS.now []
whole_entry number line None =
    if bytes_eq (word 5 line) (codes "COUPLED") then marked_entry number line 5 wording.VERSION_1_HAS_NO_COUPLED.now [] else line_entry number line

-- the entry of a line that lacks words behind its last one
unfoldable pub missing_entry : ℕ → List ℕ → Halt → List ℕ
missing_entry number line halt = marked_entry number line (halt.place - 1) wording.BEHIND_THIS_BELONGS.now (phrase halt.stage)

-- the entry of a line that leaves the forms behind its last word: where a form may end, nothing is missing
unfoldable pub front_entry : ℕ → List ℕ → Halt → List ℕ
front_entry number line halt =
    if may_end halt.stage then whole_entry number line (find (is_joined line) all_places)
    else missing_entry number line halt

-- by the word at which a line leaves the forms: an empty one is none
abbrev pub halted_entry : ℕ → List ℕ → Halt → List ℕ → List ℕ
halted_entry number line halt [] = front_entry number line halt
halted_entry number line halt (byte ∷ bytes) = marked_entry number line halt.place wording.HERE_BELONGS.now (phrase halt.stage)

-- by where a line leaves the forms
unfoldable pub entry_by : ℕ → List ℕ → Option Halt → List ℕ
entry_by number line None = line_entry number line
entry_by number line (Some halt) = halted_entry number line halt (word halt.place line)

-- the entry of a line with a number
abbrev pub misread_entry : ℕ → List ℕ → List ℕ
misread_entry number line = entry_by number line (halt_of line)
