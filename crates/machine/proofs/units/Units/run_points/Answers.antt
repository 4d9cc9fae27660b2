use Rattle.machine.proofs.units.Units.run_points.Goals as goal

pub returns-in-Card-Some-clause-reached : goal.returns-in-Card-Some-clause-reached
returns-in-Card-Some-clause-reached c wiring is_net =
    rw c.in-Card-Some.is-0 (c.run_straight_points.ensures.reached wiring is_net)

pub returns-in-Card-Some-clause-keeps : goal.returns-in-Card-Some-clause-keeps
returns-in-Card-Some-clause-keeps c = rw c.in-Card-Some.is-0 c.run_straight_points.ensures.keeps
