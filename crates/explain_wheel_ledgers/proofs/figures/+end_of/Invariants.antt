use Rattle.explain_wheel_ledgers.proofs.figures.+end_of.Given as goal

-- each call looks at one character less
abbrev pub decreases-end_of : goal.decreases-end_of
decreases-end_of l = l.others
