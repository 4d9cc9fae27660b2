use Rattle.std.proofs.lemmas.Result.{err_from_is_err_and}
use Rattle.cli_commands.proofs.CommandsWords.Refusing.{chart_refused}
use Rattle.cli_commands.proofs.PanelGuides.Legending.{legend_of_text, memory_refuses}
use Rattle.cli_commands.proofs.panel_guides.legends.legend_of.Goals as goal

pub returns-in_err-compiled-clause-legend : goal.returns-in_err-compiled-clause-legend
returns-in_err-compiled-clause-legend c = rw (err_from_is_err_and c.from_residual.result c.from_residual.ensures.1).1 tt

pub returns-in_err-compiled-clause-refused : goal.returns-in_err-compiled-clause-refused
returns-in_err-compiled-clause-refused c =
    let exit = err_from_is_err_and c.from_residual.result c.from_residual.ensures.1 in
    rw exit.1 (chart_refused c.args.chart.now c.in_err-compiled.field-0.0 exit.0 c.in_err-compiled.ensures.refused exit.2)

pub returns-clause-legend : goal.returns-clause-legend
returns-clause-legend c =
    let is = c.in_ok-compiled.ensures.compiled in
    legend_of_text c.written_legend.result (λ answer. answer.items) c.args.chart.now c.in_ok-compiled.compiled
    (record { read = c.in_ok-compiled.ensures.read; wired = is })
    (c.lines_make_the_setup.ensures c.in_ok-compiled.compiled.chart c.in_ok-compiled.compiled.plan c.in_ok-compiled.compiled.setup
    is.sound.lawful is.wired)
    c.written_legend.ensures.legend

pub returns-clause-refused : goal.returns-clause-refused
returns-clause-refused c = memory_refuses c.written_legend.result c.args.chart.now c.written_legend.ensures.memory
