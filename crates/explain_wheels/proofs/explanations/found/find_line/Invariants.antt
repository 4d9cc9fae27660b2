use Rattle.std.specs.Prelude.{◌≡◌}
use Rattle.explain_wheels.proofs.ExplanationsWords.Feeding.{HasFed}
use Rattle.explain_wheels.proofs.explanations.found.find_line.Given as goal

-- the cards so far are fed, and their lines stand elsewhere
abbrev pub invariant-loop-card : goal.invariant-loop-card
invariant-loop-card l = record { fed : HasFed l.setup l.cards l.page l.line l.card-index l.machine; counted : l.fed ≡ l.card-index }
