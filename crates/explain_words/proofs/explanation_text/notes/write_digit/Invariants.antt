use Rattle.std.specs.Prelude.{◌≡◌}
use Rattle.std.specs.String.{string_bytes}
use Rattle.explain_words.specs.ExplanationText.Notes.{digit_text}
use Rattle.explain_words.proofs.ExplanationText.Digits.{digit_from}
use Rattle.explain_words.proofs.explanation_text.notes.write_digit.Given as goal

-- the exit emitted at none of the rows so far
abbrev pub invariant-loop-place : goal.invariant-loop-place
invariant-loop-place l = record {
  text : string_bytes l.text ≡ string_bytes l.initial.text;
  left : digit_text l.points l.exit ≡ digit_from l.points l.exit l.place;
}
