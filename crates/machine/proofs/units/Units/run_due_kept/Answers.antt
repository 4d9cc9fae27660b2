use Rattle.std.proofs.Common.{sym, subst}
use Rattle.machine.specs.Feeds.{Fed}
use Rattle.machine.specs.Kept.{KeepsPoints}
use Rattle.machine.proofs.units.Units.run_due_kept.Goals as goal

pub returns-clause-points : goal.returns-clause-points
returns-clause-points c wiring is_net =
    subst (λ (fed : Fed). KeepsPoints wiring c.args.cycle fed.machine 14 c.run_cycle_kept-points.result) (sym c.take-waits.ensures)
    (c.run_cycle_kept-points.ensures.kept wiring is_net)
