use Rattle.explain_wheel_ledgers.proofs.ledger_holes.digits.+digit_lines.Given as goal

-- each call has one digit less to tell
abbrev pub decreases-digit_lines : goal.decreases-digit_lines
decreases-digit_lines l = l.count
