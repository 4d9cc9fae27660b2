use Rattle.std.specs.Prelude.{◌≡◌}
use Rattle.std.specs.List.{flat_map, range_with_len}
use Rattle.explain_words.specs.ExplanationText.Closing.{row_listed}
use Rattle.explain_words.proofs.explanation_text.closing.rows_listed.Given as goal

-- the rows so far are listed
abbrev pub invariant-loop-place : goal.invariant-loop-place
invariant-loop-place l = l.rows.items ≡ flat_map (row_listed l.received) (range_with_len 0 l.place)
