use Rattle.std.specs.Prelude.{◌≡◌, ◌++◌, drop}
use Rattle.std.specs.String.{string_bytes}
use Rattle.explain_words.specs.ExplanationText.Notes.{step_notes}
use Rattle.explain_words.proofs.explanation_text.notes.write_step_notes.Given as goal

-- the notes so far are written, and those on the steps from the hub are left
abbrev pub invariant-loop-next : goal.invariant-loop-next
invariant-loop-next l =
    string_bytes l.initial.text ++ step_notes l.fn.exit l.others
    ≡ string_bytes l.text ++ step_notes l.hub (drop l.next-index l.others)
