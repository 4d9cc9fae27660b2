use Rattle.std.specs.Prelude.{◌≡◌, ◌++◌}
use Rattle.std.specs.List.{flat_map, range_with_len}
use Rattle.std.specs.String.{string_bytes}
use Rattle.explain_words.specs.ExplanationText.Notes.{digit_down}
use Rattle.explain_words.proofs.explanation_text.notes.write_held.Given as goal

-- the digits so far are written
abbrev pub invariant-loop-down : goal.invariant-loop-down
invariant-loop-down l =
    string_bytes l.text ≡ string_bytes l.initial.text ++ flat_map (digit_down l.points l.group) (range_with_len 0 l.down)
