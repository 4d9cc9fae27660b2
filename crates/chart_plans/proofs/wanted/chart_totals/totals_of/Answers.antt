use Rattle.chart_plans.proofs.WantedWords.Needs.{NeedsFit-lawful}
use Rattle.chart_plans.proofs.wanted.chart_totals.totals_of.Goals as goal

pub returns-clause-needs : goal.returns-clause-needs
returns-clause-needs c = rw c.in_ok-list.ensures (rw c.lines.ensures.value (NeedsFit-lawful c.args.chart.now c.lines.ensures.lawful))
