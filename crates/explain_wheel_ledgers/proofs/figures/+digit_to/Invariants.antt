use Rattle.explain_wheel_ledgers.proofs.figures.+digit_to.Given as goal

-- each call looks at one less
abbrev pub decreases-digit_to : goal.decreases-digit_to
decreases-digit_to l = l.positions
