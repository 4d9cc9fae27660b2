use Rattle.std.specs.Prelude.{◌≡◌, drop}
use Rattle.explain_words.specs.ExplanationText.Asked.{has_wire_of}
use Rattle.explain_words.proofs.explanation_text.asked.has_wire_of.Given as goal

-- what is left of the way decides
abbrev pub invariant-loop-step : goal.invariant-loop-step
invariant-loop-step l = has_wire_of l.setup (drop l.step l.way) ≡ has_wire_of l.setup l.way
