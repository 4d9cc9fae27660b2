use Rattle.explain_wheel_ledgers.proofs.ledger_holes.telling.entry_down.Goals as goal

pub returns-clause-told : goal.returns-clause-told
returns-clause-told c = c.entry_by.ensures c.in_ok-points.ensures.points
