use Rattle.explain_origins.proofs.holding.+hold_same_to.Given as goal

-- each call looks at one column less
abbrev pub decreases-hold_same_to : goal.decreases-hold_same_to
decreases-hold_same_to l = l.columns
