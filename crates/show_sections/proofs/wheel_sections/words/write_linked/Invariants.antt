use Rattle.std.specs.Prelude.{◌≡◌, ◌++◌, drop}
use Rattle.std.specs.String.{string_bytes}
use Rattle.show_sections.specs.WheelSections.Words.{linked}
use Rattle.show_sections.proofs.wheel_sections.words.write_linked.Given as goal

-- what is written, and the words that are left
abbrev pub invariant-loop-at : goal.invariant-loop-at
invariant-loop-at l =
    string_bytes l.text ++ linked (drop l.at l.words) ≡ string_bytes l.initial.text ++ linked l.words
