use Rattle.explain_origins.proofs.placing.add_placing.Goals as goal

pub returns-in-Ok : goal.returns-in-Ok
returns-in-Ok c = record { before = c.in_ok-before.before; is_before = c.in_ok-before.ensures; line = c.in-Ok.ensures }
