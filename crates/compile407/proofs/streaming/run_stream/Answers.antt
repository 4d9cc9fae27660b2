use Rattle.compile407.proofs.Promised.{begins, form_lines, prints}
use Rattle.compile407.proofs.streaming.run_stream.Goals as goal

pub run_stream-requires-clause-prints : goal.run_stream-requires-clause-prints
run_stream-requires-clause-prints g c =
    prints c.chart-chart.result.now c.setup-setup.result.now c.args.compiled.now c.chart-chart.ensures.value c.setup-setup.ensures.value
    c.chart-chart.ensures.compiled

pub run_stream-requires-clause-begins : goal.run_stream-requires-clause-begins
run_stream-requires-clause-begins g c =
    begins c.chart-chart.result.now c.setup-setup.result.now c.args.compiled.now c.chart-chart.ensures.value c.setup-setup.ensures.value
    c.chart-chart.ensures.compiled

pub run_stream-requires-clause-form : goal.run_stream-requires-clause-form
run_stream-requires-clause-form g c =
    form_lines c.chart-chart.result.now c.setup-setup.result.now c.args.compiled.now c.chart-chart.ensures.value c.setup-setup.ensures.value
    c.chart-chart.ensures.compiled
