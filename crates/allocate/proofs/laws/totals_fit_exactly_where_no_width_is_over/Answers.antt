use Rattle.allocate.proofs.Assignments.{widest_first, widest_first-assigns, none_where_over}
use Rattle.chart_plans.proofs.WantedWords.Needs.{NeedsFit-lawful}
use Rattle.chart_plans.specs.WantedWords.ChartTotals.{totals_of}
use Rattle.allocate.proofs.laws.totals_fit_exactly_where_no_width_is_over.Goals as goal

pub returns-clause-needs : goal.returns-clause-needs
returns-clause-needs c = NeedsFit-lawful

pub returns-clause-fit : goal.returns-clause-fit
returns-clause-fit c chart machine lawful within =
    let totals = totals_of chart.lines in
    (widest_first totals machine, widest_first-assigns totals machine (NeedsFit-lawful chart lawful) within)

pub returns-clause-over : goal.returns-clause-over
returns-clause-over c chart machine width counters over =
    none_where_over width (totals_of chart.lines) machine counters over
