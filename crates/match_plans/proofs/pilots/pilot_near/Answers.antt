use Rattle.match_plans.proofs.PilotsTold.{signed-of}
use Rattle.match_plans.proofs.pilots.pilot_near.Goals as goal

pub near_pilot-requires : goal.near_pilot-requires
near_pilot-requires c =
    signed-of c.args.chart.now.lines c.args.name c.in-Some.amount c.in-Some.ensures.some.0 c.in-Some.ensures.some.1
