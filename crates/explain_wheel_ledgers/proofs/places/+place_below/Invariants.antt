use Rattle.explain_wheel_ledgers.proofs.places.+place_below.Given as goal

-- each call looks at one place less
abbrev pub decreases-place_below : goal.decreases-place_below
decreases-place_below l = l.count
