use Rattle.std.proofs.Common.{◌≡◌, ◌++◌, drop, reverse}
use Rattle.explain_words.specs.TracesWords.TracedUnits.{digits_text}
use Rattle.explain_words.proofs.traces.groups.write_digits.Given as goal

-- the digits from the top down to here are written
abbrev pub invariant-loop-place : goal.invariant-loop-place
invariant-loop-place l = l.text.items ≡ l.initial.text.items ++ digits_text (reverse (drop l.place l.digits))
