use Rattle.explain_wheel_ledgers.proofs.ledger_holes.feeding.+leads_from.Given as goal

-- each call looks at one position less
abbrev pub decreases-leads_from : goal.decreases-leads_from
decreases-leads_from l = l.owns
