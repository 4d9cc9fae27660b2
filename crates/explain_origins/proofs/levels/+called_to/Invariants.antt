use Rattle.explain_origins.proofs.levels.+called_to.Given as goal

-- each call looks at one level less
abbrev pub decreases-called_to : goal.decreases-called_to
decreases-called_to l = l.levels
