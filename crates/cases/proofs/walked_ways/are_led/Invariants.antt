use denote.Text.{Utf8}
use denote.Shadow.{shadow}
use Rattle.cases.proofs.walked_ways.are_led.Given as goal

-- says that each `&str` the loop changes is text: keep it, and add clauses with ×
abbrev pub invariant-loop-hubs : goal.invariant-loop-hubs
invariant-loop-hubs l =
    (goal.iterator-loop-hubs).can_next l.hubs-iterator ×
    (goal.iterator-loop-hubs).is_finite l.hubs-iterator ×
    shadow (Utf8 l.from)
