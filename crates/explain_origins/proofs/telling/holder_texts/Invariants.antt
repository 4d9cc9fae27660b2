use Rattle.explain_origins.specs.ToldOrigins.{AreHolderTexts}
use Rattle.explain_origins.proofs.telling.holder_texts.Given as goal

-- the texts of the holders so far are there
abbrev pub invariant-loop-place : goal.invariant-loop-place
invariant-loop-place l = AreHolderTexts l.setup l.cards l.fn.passed l.ways l.place l.text.items
