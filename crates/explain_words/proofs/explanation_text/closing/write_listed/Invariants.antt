use Rattle.std.specs.Prelude.{◌≡◌, ◌++◌, drop}
use Rattle.std.specs.String.{string_bytes}
use Rattle.explain_words.specs.ExplanationText.Closing.{listed}
use Rattle.explain_words.proofs.explanation_text.closing.write_listed.Given as goal

-- the rows so far are written
abbrev pub invariant-loop-place : goal.invariant-loop-place
invariant-loop-place l = string_bytes l.initial.text ++ listed l.rows ≡ string_bytes l.text ++ listed (drop l.place l.rows)
