use Rattle.std.proofs.lemmas.Result.{err_from_is_err_and}
use Rattle.cli_matching.proofs.ChartCalls.Refusing.{memory_told}
use Rattle.cli_matching.proofs.chart_calls.found.chart_of.Goals as goal

pub returns-in_err-nearest_chart-clause-memory : goal.returns-in_err-nearest_chart-clause-memory
returns-in_err-nearest_chart-clause-memory c =
    let exit = err_from_is_err_and c.from_residual.result c.from_residual.ensures.1 in
    rw exit.1 (memory_told c.in_err-nearest_chart.field-0.0 exit.0 c.in_err-nearest_chart.ensures.refused exit.2)
