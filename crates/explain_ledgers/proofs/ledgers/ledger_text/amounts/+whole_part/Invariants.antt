use Rattle.explain_ledgers.proofs.ledgers.ledger_text.amounts.+whole_part.Given as goal

-- each call has one digit less to leave out
abbrev pub decreases-whole_part : goal.decreases-whole_part
decreases-whole_part l = l.decimals
