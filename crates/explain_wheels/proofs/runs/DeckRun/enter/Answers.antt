use Rattle.std.proofs.Common.{sym}
use Rattle.explain_wheels.proofs.RunsWords.DeckRuns.{run-inside}
use Rattle.explain_wheels.proofs.runs.DeckRun.enter.Goals as goal

pub returns-clause-enters : goal.returns-clause-enters
returns-clause-enters c =
    run-inside c.args.setup.now c.args.cards.now c.in_ok-cycle.cycle c.args.self.now c.make_ready.new.self c.run_points.new.self
    c.requires.between (sym c.in_ok-cycle.ensures) c.make_ready.ensures.made c.make_ready.ensures.net c.run_points.ensures.reached c.run_points.ensures.net
