use Rattle.explain_ledgers.proofs.ledgers.ledger_text.amounts.+write_digits.Given as goal

-- each call has one digit less to write
abbrev pub decreases-write_digits : goal.decreases-write_digits
decreases-write_digits l = l.width
