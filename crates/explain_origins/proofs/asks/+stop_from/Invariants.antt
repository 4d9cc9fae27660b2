use Rattle.explain_origins.proofs.asks.+stop_from.Given as goal

-- each call looks at one line less
abbrev pub decreases-stop_from : goal.decreases-stop_from
decreases-stop_from l = l.others
