use Rattle.explain_wheel_ledgers.proofs.figures.+begin_of.Given as goal

-- each call looks at one character less
abbrev pub decreases-begin_of : goal.decreases-begin_of
decreases-begin_of l = l.place
