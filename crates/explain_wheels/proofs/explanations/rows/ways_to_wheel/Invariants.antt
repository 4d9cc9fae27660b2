use Rattle.hubs.specs.declared.hub.Hub.TheVariants.{W}
use Rattle.explain_wheels.specs.ExplanationsWords.Explanations.{TellsRows}
use Rattle.explain_wheels.proofs.explanations.rows.ways_to_wheel.Given as goal

-- the rows so far are told
abbrev pub invariant-loop-row : goal.invariant-loop-row
invariant-loop-row l = TellsRows l.setup l.kept.points l.row (W l.wheel) l.rows.items
