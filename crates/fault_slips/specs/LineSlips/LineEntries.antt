-- The entry of a line that no form derives: its number and that of the fault, the line as it stands, a mark, the slip, and what helps.
use Rattle.std.specs.Prelude.{ℕ, List, ◌++◌, codes, decimal}
use Rattle.fault_slips.specs.LineMarks.Entries.{below, head_line, shown}
use Rattle.fault_slips.specs.LineMarks.Spans.{span_of, word}
use Rattle.fault_slips.specs.LineSlips.Forms.{cure_words, slip_words}
use Rattle.fault_slips.specs.LineSlips.Slips.{slip_of, slip_span}
use Rattle.fault_slips.specs.declared.wording.TheConstants as wording

-- the slip of the line, and what helps
unfoldable pub help_lines : List ℕ → List ℕ
help_lines line = below (slip_words (slip_of line) (word 0 line)) ++ below (cure_words (slip_of line) (word 0 line))

-- the entry of a line with a number
unfoldable pub line_entry : ℕ → List ℕ → List ℕ
line_entry number line = head_line number 13 (codes "NotALine") ++ shown line (slip_span line) ++ help_lines line

-- what is wrong with a line behind END, which stands on this line
unfoldable pub behind_wrong : ℕ → List ℕ
behind_wrong end = wording.END_STANDS_ON_LINE.now ++ decimal end ++ wording.AND_ENDS_THE_CHART.now

-- what is told of it, of a chart and of a wiring chart
unfoldable pub behind_told : ℕ → List ℕ → List ℕ
behind_told end line =
    shown line (span_of 0 line) ++ below (behind_wrong end)
    ++ wording.TAKE_OUT_WHAT_STANDS_BEHIND_END.now

-- the entry of a line with a number that stands behind END
unfoldable pub behind_entry : ℕ → ℕ → List ℕ → List ℕ
behind_entry number end line = head_line number 13 (codes "NotALine") ++ behind_told end line
