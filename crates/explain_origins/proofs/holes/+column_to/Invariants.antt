use Rattle.explain_origins.proofs.holes.+column_to.Given as goal

-- each call looks at one column less
abbrev pub decreases-column_to : goal.decreases-column_to
decreases-column_to l = l.columns
