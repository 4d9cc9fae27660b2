use Rattle.explain_wheel_ledgers.proofs.ledger_holes.feeding.+leads_to.Given as goal

-- each call looks at one position less
abbrev pub decreases-leads_to : goal.decreases-leads_to
decreases-leads_to l = l.positions
