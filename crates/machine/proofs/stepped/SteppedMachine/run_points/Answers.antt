use Rattle.std.proofs.Common.{subst, sym}
use Rattle.net.specs.Nets.{IsNetOf}
use Rattle.machine.specs.Cycles.{Reached}
use Rattle.machine.specs.Stepped.{Stepped}
use Rattle.machine.proofs.stepped.SteppedMachine.run_points.Goals as goal

pub returns-clause-reached : goal.returns-clause-reached
returns-clause-reached c wiring is_net =
    subst (λ (s : Stepped). Reached wiring c.args.cycle 14 s.machine c.run_points.new.self) c.self.view_is
    (c.run_points.ensures.reached wiring (subst (λ (s : Stepped). IsNetOf wiring s.net) (sym c.self.view_is) is_net))
