use Rattle.compile407.proofs.Untold.{untold_fits}
use Rattle.compile407.proofs.running.check_totals.Goals as goal

pub returns-in-None-clause-fits : goal.returns-in-None-clause-fits
returns-in-None-clause-fits c = untold_fits c.args.compiled.now.chart.lines c.args.cards.now c.in-None.ensures
