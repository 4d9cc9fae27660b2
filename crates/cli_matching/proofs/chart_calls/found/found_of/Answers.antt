use Rattle.std.proofs.lemmas.Result.{err_from_is_err_and}
use Rattle.std.specs.String.{string_bytes}
use Rattle.cli_matching.proofs.ChartCalls.Finding.{found_chart}
use Rattle.cli_matching.proofs.ChartCalls.Refusing.{memory_alone}
use Rattle.cli_matching.proofs.chart_calls.found.found_of.Goals as goal

pub returns-in_err-chart-clause-refused : goal.returns-in_err-chart-clause-refused
returns-in_err-chart-clause-refused c =
    let exit = err_from_is_err_and c.from_residual-in_err-chart.result c.from_residual-in_err-chart.ensures.1 in
    rw exit.1 (memory_alone c.args.wiring.now c.in_err-chart.field-0.0 exit.0 c.in_err-chart.ensures.memory exit.2)

pub returns-clause-found : goal.returns-clause-found
returns-clause-found c =
    rw c.into_text.ensures
    (found_chart c.wired_setups_print_reports.ensures c.wired_setups_begin_reports.ensures c.args.wiring.now
    (string_bytes c.in_ok-chart.chart.text) c.in_ok-setup.setup c.in_ok-chart.chart.compiled c.in_ok-chart.chart.matching
    c.told_counts-counts.result c.in_ok-setup.ensures.reads c.in_ok-chart.ensures.read
    c.in_ok-chart.ensures.first c.told_counts-counts.ensures)
