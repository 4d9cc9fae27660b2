use Rattle.std.specs.Prelude.{◌≡◌, ◌++◌, take}
use Rattle.std.specs.List.{flat_map}
use Rattle.std.specs.String.{string_bytes}
use Rattle.explain_words.specs.ExplanationText.Text.{led_text}
use Rattle.explain_words.proofs.explanation_text.names.write_others.Given as goal

-- the hubs so far are written
abbrev pub invariant-loop-hub : goal.invariant-loop-hub
invariant-loop-hub l = string_bytes l.text ≡ string_bytes l.initial.text ++ flat_map led_text (take l.hub-index l.hubs)
