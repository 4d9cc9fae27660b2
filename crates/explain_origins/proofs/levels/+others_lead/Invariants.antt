use Rattle.explain_origins.proofs.levels.+others_lead.Given as goal

-- each call looks at one exit less
abbrev pub decreases-others_lead : goal.decreases-others_lead
decreases-others_lead l = l.count
