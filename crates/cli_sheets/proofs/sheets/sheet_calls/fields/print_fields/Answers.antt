use Rattle.std.proofs.Common.{inr, refl}
use Rattle.std.proofs.lemmas.Result.{err_from_is_err_and}
use Rattle.cli_sheets.proofs.SheetsWords.SheetCalls.Stopping.{card-stops-fields, chart-stops-fields, fields-printed, fields-written, output-stops-fields, reading-stops-fields, whole-deck}
use Rattle.fault_lines.proofs.ProgramIo.Fronting.{front_of_bytes}
use Rattle.cli_sheets.proofs.sheets.sheet_calls.fields.print_fields.Goals as goal

pub returns-in_err-planned-clause-stopped : goal.returns-in_err-planned-clause-stopped
returns-in_err-planned-clause-stopped g c =
    let exit = err_from_is_err_and c.from_residual.result c.from_residual.ensures.1 in
    rw exit.1
    (chart-stops-fields c.args.chart.now (g.R.Read.remaining c.args.deck) c.args.number _ _ c.in_err-planned.field-0.0 exit.0 exit.2
    c.in_err-planned.ensures.refused refl)

pub returns-in_err-bytes-clause-stopped : goal.returns-in_err-bytes-clause-stopped
returns-in_err-bytes-clause-stopped g c =
    let exit = err_from_is_err_and c.from_residual-in_err-bytes.result c.from_residual-in_err-bytes.ensures.1 in
    rw exit.1
    (reading-stops-fields c.args.chart.now (g.R.Read.remaining c.args.deck) c.args.number _ _ c.in_err-bytes.field-0.0 exit.0 exit.2
    c.in_err-bytes.ensures.told c.in_ok-planned.planned c.in_ok-planned.ensures.read refl)

pub returns-in_err-answer-clause-stopped : goal.returns-in_err-answer-clause-stopped
returns-in_err-answer-clause-stopped g c =
    let exit = err_from_is_err_and c.from_residual-in_err-answer.result c.from_residual-in_err-answer.ensures.1 in
    rw exit.1
    (card-stops-fields c.args.chart.now (g.R.Read.remaining c.args.deck) c.args.number _ _ c.in_err-answer.field-0.0 exit.0 exit.2
    c.as_slice.result.now
    (whole-deck (g.R.Read.remaining c.args.deck) c.as_slice.result.now c.in_ok-bytes.bytes.items c.as_slice.ensures.value
    c.in_ok-bytes.ensures.whole)
    c.in_err-answer.ensures.told c.in_ok-planned.planned c.in_ok-planned.ensures.read refl)

pub returns-clause-printed : goal.returns-clause-printed
returns-clause-printed g c =
    fields-printed c.put.result c.args.chart.now (g.R.Read.remaining c.args.deck) c.args.number c.as_slice.result.now
    c.in_ok-answer.answer.items c.as_slice-2.result.now c.in_ok-planned.planned _ _ c.in_ok-planned.ensures.read
    (whole-deck (g.R.Read.remaining c.args.deck) c.as_slice.result.now c.in_ok-bytes.bytes.items c.as_slice.ensures.value
    c.in_ok-bytes.ensures.whole)
    c.in_ok-answer.ensures.sheet c.as_slice-2.ensures.value c.put.ensures.written

pub returns-clause-stopped : goal.returns-clause-stopped
returns-clause-stopped g c =
    output-stops-fields c.args.chart.now (g.R.Read.remaining c.args.deck) c.args.number _ _ c.put.result c.put.ensures.told

pub returns-clause-front : goal.returns-clause-front
returns-clause-front g c =
    inr (front_of_bytes c.as_slice-2.result.now (λ after.
    fields-written c.args.chart.now (g.R.Read.remaining c.args.deck) c.args.number c.as_slice.result.now
    c.in_ok-answer.answer.items c.as_slice-2.result.now c.in_ok-planned.planned _ after c.in_ok-planned.ensures.read
    (whole-deck (g.R.Read.remaining c.args.deck) c.as_slice.result.now c.in_ok-bytes.bytes.items c.as_slice.ensures.value
    c.in_ok-bytes.ensures.whole)
    c.in_ok-answer.ensures.sheet c.as_slice-2.ensures.value) c.put.ensures.front)
