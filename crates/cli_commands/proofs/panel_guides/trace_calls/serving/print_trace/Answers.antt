use Rattle.std.proofs.Common.{refl}
use Rattle.std.proofs.lemmas.Result.{err_from_is_err_and}
use Rattle.fault_lines.proofs.ProgramIo.StoppingWith.{deck_stops_with}
use Rattle.cli_commands.proofs.PanelGuides.TraceCalls.Stopping.{prints_for, refused_unread, stops_for}
use Rattle.cli_commands.proofs.panel_guides.trace_calls.serving.print_trace.Goals as goal

pub returns-in-Ok-clause-printed : goal.returns-in-Ok-clause-printed
returns-in-Ok-clause-printed g c =
    prints_for c.print_traced.result c.args.text.now c.as_slice.result.now c.in-Ok.bytes.items (g.R.Read.remaining c.args.deck) _ _
    c.as_slice.ensures.value c.in-Ok.ensures.whole c.print_traced.ensures.printed

pub returns-in-Ok-clause-stopped : goal.returns-in-Ok-clause-stopped
returns-in-Ok-clause-stopped g c =
    stops_for c.print_traced.result c.args.text.now c.as_slice.result.now c.in-Ok.bytes.items (g.R.Read.remaining c.args.deck) _ _
    c.as_slice.ensures.value c.in-Ok.ensures.whole c.print_traced.ensures.stopped

pub returns-in_err-check_panel-in-Err-clause-stopped : goal.returns-in_err-check_panel-in-Err-clause-stopped
returns-in_err-check_panel-in-Err-clause-stopped g c =
    let exit = err_from_is_err_and c.from_residual.result c.from_residual.ensures.1 in
    rw exit.1 (refused_unread c.args.text.now (g.R.Read.remaining c.args.deck) c.in_err-check_panel-in-Err.field-0.0 exit.0 _ _
    c.in_err-check_panel-in-Err.ensures.refused exit.2 refl)

pub returns-in_ok-check_panel-in-Err-clause-stopped : goal.returns-in_ok-check_panel-in-Err-clause-stopped
returns-in_ok-check_panel-in-Err-clause-stopped g c =
    deck_stops_with c.in-Err.unread c.in-Err.ensures.told refl c.in_ok-check_panel-in-Err.ensures.good refl
