use Rattle.machine.proofs.Keeps.{Keeps-ends}
use Rattle.machine.proofs.units.Units.run_cycle_kept.Goals as goal

pub returns-clause-ran : goal.returns-clause-ran
returns-clause-ran c wiring is_net = record {
  at_end = c.run_points_kept-points.new.self;
  reached = c.run_points_kept-points.ensures.reached wiring is_net;
  is_new = c.end_cycle.ensures;
}

pub returns-clause-ends : goal.returns-clause-ends
returns-clause-ends c =
    Keeps-ends c.args.cycle c.args.self.now c.run_points_kept-points.new.self c.end_cycle.new.self c.run_points_kept-points.ensures.keeps c.end_cycle.ensures
