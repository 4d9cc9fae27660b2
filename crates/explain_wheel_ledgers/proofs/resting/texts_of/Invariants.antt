use Rattle.explain_wheel_ledgers.specs.Resting.{ArePlaceTexts}
use Rattle.explain_wheel_ledgers.proofs.resting.texts_of.Given as goal

-- the ledgers of the places so far are there
abbrev pub invariant-loop-place : goal.invariant-loop-place
invariant-loop-place l =
    ArePlaceTexts l.setup l.cards l.totals l.fn.ends l.fn.found l.ways l.place l.text.items
