use Rattle.std.proofs.Common.{Some, inr, refl}
use Rattle.std.proofs.lemmas.Result.{err_from_is_err_and}
use Rattle.cli_commands.specs.PanelGuides.Panels.{reported}
use Rattle.fault_lines.specs.FaultsWords.Status.{status_of}
use Rattle.fault_lines.proofs.ProgramIo.StoppingWith.{outcome_output_stops}
use Rattle.cli_commands.proofs.PanelGuides.TraceCalls.Stopping.{texts_stop, traced}
use Rattle.cli_commands.specs.PanelGuides.TraceCalls.TraceEnds.{LeavesUntraced}
use Rattle.cli_commands.proofs.panel_guides.trace_calls.serving.print_planned.Goals as goal

pub returns-in_err-planned-clause-stopped : goal.returns-in_err-planned-clause-stopped
returns-in_err-planned-clause-stopped g c =
    let exit = err_from_is_err_and c.from_residual.result c.from_residual.ensures.1 in
    rw exit.1 (λ unreadable. texts_stop c.args.chart.now (Some c.args.deck.now) c.args.deck.now refl c.in_err-planned.field-0.0 exit.0 unreadable _
    (λ not_memory. inr (c.requires, c.in_err-planned.ensures.refused not_memory)) exit.2 refl)

pub returns-clause-printed : goal.returns-clause-printed
returns-clause-printed g c =
    traced c.print_run.result c.args.chart.now c.args.deck.now c.as_slice.result.now c.in_ok-planned.planned.cards.items
    c.setup.result.now _ _ c.as_slice.ensures.value
    (rw c.setup.ensures.value (reported c.requires c.in_ok-planned.planned.compiled c.in_ok-planned.ensures.compiles c.in_ok-planned.ensures.deck c.in_ok-planned.ensures.runnable))
    c.print_run.ensures.printed

pub returns-clause-stopped : goal.returns-clause-stopped
returns-clause-stopped g c =
    outcome_output_stops status_of (λ met. met) c.print_run.result (LeavesUntraced c.args.chart.now (Some c.args.deck.now)) _ _ c.print_run.ensures.told
