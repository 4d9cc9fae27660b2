use Rattle.machine_sets.proofs.SpreadsWords.ContactRuns.{eight-passed, idle-passed, none-gained, shut}
use Rattle.machine_sets.proofs.spreads.contact_runs.pass_eight.Goals as goal

pub returns-then-are_empty-clause-passed : goal.returns-then-are_empty-clause-passed
returns-then-are_empty-clause-passed c =
    idle-passed c.args.digits.now c.args.zones.now c.args.sets.now c.eight_from-near.result c.args.run c.requires
    c.eight_from-near.ensures (c.are_empty.ensures c.if-are_empty.true)

pub returns-clause-passed : goal.returns-clause-passed
returns-clause-passed c =
    eight-passed c.args.digits.now c.args.zones.now c.args.sets.now c.eight_from-near.result c.closed_rows_of_eight.result c.args.run c.requires
    c.told-sets c.eight_from-near.ensures c.closed_rows_of_eight.ensures.eight c.closed_rows_of_eight.ensures.rows _ c.join_eight.ensures.joined

pub returns-clause-same : goal.returns-clause-same
returns-clause-same c nothing =
    none-gained _ c.args.sets.now _ c.args.run.exits c.join_eight.ensures.joined (c.are_empty-2.ensures (shut _ nothing))
