use Rattle.std.specs.Prelude.{◌≡◌, ◌++◌}
use Rattle.std.specs.List.{flat_map, range_with_len}
use Rattle.std.specs.String.{string_bytes}
use Rattle.explain_words.specs.ExplanationText.ExplanationTexts.{lines_at}
use Rattle.explain_words.proofs.explanation_text.text.write_rows.Given as goal

-- the lines of the rows so far are written
abbrev pub invariant-loop-place : goal.invariant-loop-place
invariant-loop-place l =
    string_bytes l.text ≡ string_bytes l.initial.text ++ flat_map (lines_at l.points l.asked l.told) (range_with_len 0 l.place)
