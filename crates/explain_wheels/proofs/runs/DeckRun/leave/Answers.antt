use Rattle.explain_wheels.proofs.RunsWords.DeckRuns.{run-ends}
use Rattle.explain_wheels.proofs.runs.DeckRun.leave.Goals as goal

pub returns : goal.returns
returns c wiring deck from inside =
    run-ends wiring deck c.args.cycle from c.args.self.now c.end_cycle.new.self inside c.end_cycle.ensures.machine c.end_cycle.ensures.net
