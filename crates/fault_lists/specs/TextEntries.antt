-- The entries of faults of a chart's text.
use Rattle.std.specs.Prelude.{ℕ, List, [], ◌++◌, Option, Some, None, codes, map, nat_lt, if◌then◌else◌}
use Rattle.std.specs.List.{flat_map}
use Rattle.chart_text.specs.declared.fault.TextFault.{TextFault}
use Rattle.chart_text.specs.declared.fault.TextFault.TheVariants as text
use Rattle.fault_slips.specs.Below.card_code.Deck.{line_at}
use Rattle.fault_slips.specs.LineMarks.Entries.{below}
use Rattle.fault_slips.specs.LineMarks.FirstLines.{first_line, is_end}
use Rattle.fault_slips.specs.LineSlips.LineEntries.{behind_entry}
use Rattle.fault_lines.specs.ProgramIo.Printable.{printable}
use Rattle.fault_slips.specs.WordSlips.Entries.{misread_entry}

-- the entry of a line that no form derives, by the line of END: one behind END is told by that
unfoldable pub placed_entry : Option ℕ → ℕ → List ℕ → List ℕ
placed_entry None line text = misread_entry line text
placed_entry (Some end) line text = if nat_lt end line then behind_entry line end text else misread_entry line text

-- the entry of such a line of a text, by its number
unfoldable pub numbered_entry : List ℕ → ℕ → List ℕ
numbered_entry source line = placed_entry (first_line is_end source) line (line_at source line)

-- the entries of such lines, one after another
abbrev pub lines_text : List ℕ → List ℕ → List ℕ
lines_text source lines = flat_map (numbered_entry source) lines

-- the entry of a text without a first line
unfoldable pub first_line_entry : List ℕ → List ℕ
first_line_entry source =
    codes "line 1 fault 12 NoFirstLine\n" ++ below (map printable (line_at source 1))
    ++ codes "  the first line is CHART407 1 or CHART407 2, and nothing stands before it\n"

-- the entry of a text that lacks END
abbrev pub no_end_entry : List ℕ
no_end_entry = codes "fault 14 NoEnd\n  no line has END alone\n  the last line of a chart is END\n"

-- what is listed of a fault of a text: where a line is none of a chart, the entries of all lines that are none
abbrev pub text_entry : List ℕ → List ℕ → TextFault → List ℕ
text_entry source lines text.TooLarge =
    codes "fault 11 TooLarge\n  a chart has 500 lines of 200 bytes at most\n  take out empty lines and spaces, or look whether this is a deck\n"
text_entry source lines text.NoFirstLine = first_line_entry source
text_entry source lines (text.NotALine line) = lines_text source lines
text_entry source lines text.NoEnd = no_end_entry
text_entry source lines text.Memory = []
