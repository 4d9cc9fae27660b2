use Rattle.explain_origins.proofs.asks.+channel_from.Given as goal

-- each call looks at one channel less
abbrev pub decreases-channel_from : goal.decreases-channel_from
decreases-channel_from l = l.others
