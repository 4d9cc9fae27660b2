use Rattle.std.proofs.Common.{inr, refl}
use Rattle.std.proofs.lemmas.Result.{err_from_is_err_and}
use Rattle.cli_sheets.proofs.SheetsWords.SheetCalls.Stopping.{chart-stops-layout, device-stops-layout, layout-printed, layout-written, output-stops-layout}
use Rattle.fault_lines.proofs.ProgramIo.Fronting.{front_of_bytes}
use Rattle.cli_sheets.proofs.sheets.sheet_calls.layouts.print_layout.Goals as goal

pub returns-in_err-planned-clause-stopped : goal.returns-in_err-planned-clause-stopped
returns-in_err-planned-clause-stopped g c =
    let exit = err_from_is_err_and c.from_residual.result c.from_residual.ensures.1 in
    rw exit.1
    (chart-stops-layout c.args.chart.now _ c.in_err-planned.field-0.0 exit.0 exit.2 c.in_err-planned.ensures.refused refl)

pub returns-in_err-answer-clause-stopped : goal.returns-in_err-answer-clause-stopped
returns-in_err-answer-clause-stopped g c =
    let exit = err_from_is_err_and c.from_residual-in_err-answer.result c.from_residual-in_err-answer.ensures.1 in
    rw exit.1 (device-stops-layout c.args.chart.now _ c.in_err-answer.field-0.0 exit.0 exit.2 c.in_err-answer.ensures.told)

pub returns-clause-printed : goal.returns-clause-printed
returns-clause-printed g c =
    layout-printed c.put.result c.args.chart.now c.in_ok-answer.answer.items c.as_slice.result.now c.in_ok-planned.planned _ _
    c.in_ok-planned.ensures.read c.in_ok-answer.ensures.layout c.as_slice.ensures.value c.put.ensures.written

pub returns-clause-stopped : goal.returns-clause-stopped
returns-clause-stopped g c = output-stops-layout c.args.chart.now _ c.put.result c.put.ensures.told

pub returns-clause-front : goal.returns-clause-front
returns-clause-front g c =
    inr (front_of_bytes c.as_slice.result.now (λ after.
    layout-written c.args.chart.now c.in_ok-answer.answer.items c.as_slice.result.now c.in_ok-planned.planned _ after
    c.in_ok-planned.ensures.read c.in_ok-answer.ensures.layout c.as_slice.ensures.value) c.put.ensures.front)
