use Rattle.std.specs.Prelude.{◌≡◌, ◌++◌, take}
use Rattle.std.specs.String.{string_bytes}
use Rattle.explain_words.specs.ExplanationText.Asked.{asked_lines}
use Rattle.explain_words.proofs.explanation_text.asked.write_asked.Given as goal

-- the lines of those so far are written
abbrev pub invariant-loop-words : goal.invariant-loop-words
invariant-loop-words l = string_bytes l.text ≡ string_bytes l.initial.text ++ asked_lines (take l.words-index l.asked) l.way
