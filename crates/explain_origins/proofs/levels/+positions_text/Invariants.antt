use Rattle.explain_origins.proofs.levels.+positions_text.Given as goal

-- each call looks at one position less
abbrev pub decreases-positions_text : goal.decreases-positions_text
decreases-positions_text l = l.positions
