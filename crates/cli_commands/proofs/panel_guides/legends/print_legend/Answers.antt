use Rattle.std.proofs.Common.{inr, refl}
use Rattle.std.proofs.lemmas.Result.{err_from_is_err_and}
use Rattle.cli_commands.proofs.PanelGuides.Legending.{chart_stops, legend_written, output_stops_legend, printed}
use Rattle.fault_lines.proofs.ProgramIo.Fronting.{front_of_bytes}
use Rattle.cli_commands.proofs.panel_guides.legends.print_legend.Goals as goal

pub returns-in_err-answer-clause-stopped : goal.returns-in_err-answer-clause-stopped
returns-in_err-answer-clause-stopped g c =
    let exit = err_from_is_err_and c.from_residual.result c.from_residual.ensures.1 in
    rw exit.1 (chart_stops c.args.chart.now c.in_err-answer.field-0.0 exit.0 _ c.in_err-answer.ensures.refused exit.2 refl)

pub returns-clause-printed : goal.returns-clause-printed
returns-clause-printed g c =
    printed c.put.result c.args.chart.now c.in_ok-answer.answer.items c.as_slice.result.now _ _ c.in_ok-answer.ensures.legend
    c.as_slice.ensures.value c.put.ensures.written

pub returns-clause-stopped : goal.returns-clause-stopped
returns-clause-stopped g c = output_stops_legend c.put.result c.args.chart.now _ c.put.ensures.told

pub returns-clause-front : goal.returns-clause-front
returns-clause-front g c =
    inr (front_of_bytes c.as_slice.result.now (λ after.
    legend_written c.args.chart.now c.in_ok-answer.answer.items c.as_slice.result.now _ after c.in_ok-answer.ensures.legend
    c.as_slice.ensures.value) c.put.ensures.front)
