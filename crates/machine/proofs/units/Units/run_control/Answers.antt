use Rattle.net.proofs.TellingLemmas.{ordered-orders}
use Rattle.net.specs.Orders.{ordered}
use Rattle.net.specs.declared.cycle.Point.TheVariants.{C}
use Rattle.machine.proofs.ControlPoint.{PointStep-told}
use Rattle.machine.proofs.Points.{AreSteady-more}
use Rattle.machine.proofs.units.Units.run_control.Goals as goal

pub returns-in-Some-clause-step : goal.returns-in-Some-clause-step
returns-in-Some-clause-step c wiring is_net =
    PointStep-told wiring c.args.cycle c.args.self.now c.obey.new.self c.in-Some.orders (c.in-Some.ensures wiring is_net)
    (c.obey.ensures c.args.cycle)

pub returns-in-Some-clause-senses : goal.returns-in-Some-clause-senses
returns-in-Some-clause-senses c = record {
  picture = ordered c.in-Some.orders;
  is_new = c.obey.ensures c.args.cycle (ordered c.in-Some.orders) (ordered-orders c.in-Some.orders);
}

pub returns-in-Some-clause-steady : goal.returns-in-Some-clause-steady
returns-in-Some-clause-steady c kept is =
    AreSteady-more c.args.cycle _ C c.args.self.now c.obey.new.self (c.requires kept is)
    (record {
      picture = ordered c.in-Some.orders;
      is_new = c.obey.ensures c.args.cycle (ordered c.in-Some.orders) (ordered-orders c.in-Some.orders);
    })

pub returns-in-None-clause-steady : goal.returns-in-None-clause-steady
returns-in-None-clause-steady c kept is =
    AreSteady-more c.args.cycle _ C c.args.self.now c.step_control.new.self (c.requires kept is) c.step_control.ensures.senses
