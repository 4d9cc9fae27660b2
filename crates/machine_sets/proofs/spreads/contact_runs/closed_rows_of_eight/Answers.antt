use Rattle.machine_sets.proofs.SpreadsWords.ContactRuns.{closed-lanes, eight-joined}
use Rattle.machine_sets.proofs.spreads.contact_runs.closed_rows_of_eight.Goals as goal

pub returns-clause-eight : goal.returns-clause-eight
returns-clause-eight c = eight-joined c.rows_in_lanes.result c.rows_in_lanes-2.result c.rows_in_lanes.ensures.eight c.rows_in_lanes-2.ensures.eight

pub returns-clause-rows : goal.returns-clause-rows
returns-clause-rows c k row low =
    closed-lanes c.args.digits.now c.args.zones.now c.args.run.exits c.args.run.count k row c.rows_in_lanes.result c.rows_in_lanes-2.result
    c.closed_exits.result c.closed_exits-2.result low c.rows_in_lanes.ensures.eight c.rows_in_lanes-2.ensures.eight
    (c.rows_in_lanes.ensures.rows k row low) (c.rows_in_lanes-2.ensures.rows k row low) (c.closed_exits.ensures k low)
    (c.closed_exits-2.ensures k low)
