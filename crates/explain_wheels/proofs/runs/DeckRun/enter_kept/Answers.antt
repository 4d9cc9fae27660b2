use Rattle.std.proofs.Common.{◌∙◌, sym}
use Rattle.explain_wheels.proofs.RunsWords.DeckRuns.{points-ready, run-inside}
use Rattle.explain_wheels.proofs.runs.DeckRun.enter_kept.Goals as goal

pub returns-clause-inside : goal.returns-clause-inside
returns-clause-inside c =
    run-inside c.args.setup.now c.args.cards.now c.in-Some.cycle c.args.self.now c.make_ready.new.self c.run_points_kept.new.self
    c.requires.between (sym c.cycle_due.ensures ∙ c.in-Some.is) c.make_ready.ensures.made c.make_ready.ensures.net c.run_points_kept.ensures.reached
    c.run_points_kept.ensures.net

pub returns-clause-kept : goal.returns-clause-kept
returns-clause-kept c =
    points-ready c.args.setup.now c.args.cards.now c.in-Some.cycle c.args.self.now c.make_ready.new.self c.run_points_kept.result
    c.requires.between c.make_ready.ensures.made c.make_ready.ensures.net c.run_points_kept.ensures.kept
