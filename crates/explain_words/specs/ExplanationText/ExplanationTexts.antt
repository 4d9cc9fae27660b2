-- The text that explains a wheel of a printed line. Its first line tells the place and the character, the second the cycle. Then comes for
-- each row that the wheel received a line with the way, and behind it notes, which two spaces set off, and who asks for its wires. At the
-- end come a line that tells which character the rows are, and a line on zero control, where there is one.
use Rattle.std.specs.Prelude.{◌≡◌, ℕ, List, [], ◌++◌, Option, Some, None, String, Vec, slice_index_or}
use Rattle.std.specs.List.{flat_map, range_with_len}
use Rattle.std.specs.declared.alloc.Global.{Global}
use Rattle.explain_wheels.specs.ExplanationsWords.Explanations.{IsExplanation}
use Rattle.explain_wheels.specs.declared.explanations.explanation.Explanation.{Explanation}
use Rattle.hubs.specs.declared.hub.Hub.{Hub}
use Rattle.machine.specs.declared.kept.KeptPoint.{KeptPoint}
use Rattle.hubs.specs.SetupsWords.Wiring.{Wiring}
use Rattle.explain_words.specs.ExplanationText.Asked.{asked_lines}
use Rattle.explain_words.specs.ExplanationText.Closing.{closing}
use Rattle.explain_words.specs.ExplanationText.Notes.{way_lines}
use Rattle.explain_words.specs.ExplanationText.Text.{cycle_line, page_line}

-- the lines of the row of a place: none where the wheel didn't receive it, else its way, notes, and who asks for the wires of the way
abbrev pub row_lines : List KeptPoint → List (String Global × Wiring) → Explanation → (place : ℕ) → Option (Vec Hub Global) → List ℕ
row_lines points asked told place None = []
row_lines points asked told place (Some way) =
    way_lines told.cards told.cycle points place way.items ++ asked_lines asked way.items

-- the lines of the row of a place, and of all rows
abbrev pub lines_at : List KeptPoint → List (String Global × Wiring) → Explanation → ℕ → List ℕ
lines_at points asked told place = row_lines points asked told place (slice_index_or told.rows.items place None)

unfoldable pub all_lines : List KeptPoint → List (String Global × Wiring) → Explanation → List ℕ
all_lines points asked told = flat_map (lines_at points asked told) (range_with_len 0 12)

-- The text of an explanation: on a panel, by what is kept of the points of its cycle, where it is known who asks for wires.
abbrev pub text_of : Wiring → List KeptPoint → List (String Global × Wiring) → Explanation → List ℕ
text_of wiring points asked told =
    page_line told ++ cycle_line told.cycle told.waits told.cards ++ all_lines points asked told ++ closing wiring told

-- The text is that of an explanation of the wheel.
pub record IsTextOf (wiring : Wiring) (asked : List (String Global × Wiring)) (deck : List (List ℕ)) (page line wheel : ℕ) (told : Explanation)
    (text : List ℕ) : Type 0 where
  pub right : IsExplanation wiring deck page line wheel told
  pub spelled : text ≡ text_of wiring right.points asked told

-- The text explains the wheel, where it is known who asks for wires.
pub record Explains (wiring : Wiring) (asked : List (String Global × Wiring)) (deck : List (List ℕ)) (page line wheel : ℕ)
    (text : List ℕ) : Type 0 where
  pub told : Explanation
  pub is : IsTextOf wiring asked deck page line wheel told text
