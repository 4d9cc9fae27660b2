use Rattle.machine_sets.proofs.BitSets.PassLemmas.{IsPassedOn-run}
use Rattle.machine_sets.proofs.bit_sets.passing.pass_one.Goals as goal

pub returns-then-at-runs : goal.returns-then-at-runs
returns-then-at-runs c =
    IsPassedOn-run c.args.rows.now c.args.runs.now c.args.closed.now c.args.words.now c.pass_run.new.words c.args.at _ c.pass_run.result
    c.told-closed c.if-at-runs.true c.pass_run.ensures.gains c.pass_run.ensures.some
    c.pass_run.ensures.none
