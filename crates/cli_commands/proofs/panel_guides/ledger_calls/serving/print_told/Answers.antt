use Rattle.std.proofs.Common.{Some, inr, refl}
use Rattle.std.proofs.lemmas.Result.{err_from_is_err_and}
use Rattle.cli_commands.proofs.PanelGuides.Stopping.{nothing_explained}
use Rattle.fault_lines.proofs.ProgramIo.StoppingWith.{output_stops_with}
use Rattle.fault_lines.proofs.ProgramIo.Fronting.{front_of_bytes}
use Rattle.cli_commands.proofs.PanelGuides.Written.{telling_written}
use Rattle.cli_commands.proofs.panel_guides.ledger_calls.serving.print_told.Goals as goal

pub returns-in_err-answer-clause-stopped : goal.returns-in_err-answer-clause-stopped
returns-in_err-answer-clause-stopped g c =
    let exit = err_from_is_err_and c.from_residual.result c.from_residual.ensures.1 in
    rw exit.1 (λ unreadable. nothing_explained c.args.text.now (Some c.args.deck.now) c.args.deck.now refl c.args.place exit.0 unreadable _
    (rw exit.2 c.in_err-answer.ensures.refused) refl)

pub returns-in_err-put-clause-stopped : goal.returns-in_err-put-clause-stopped
returns-in_err-put-clause-stopped g c =
    let exit = err_from_is_err_and c.from_residual-in_err-put.result c.from_residual-in_err-put.ensures.1 in
    rw exit.1 (λ unreadable. output_stops_with c.in_err-put.field-0.0 c.in_err-put.ensures.told exit.2)

pub returns-clause-printed : goal.returns-clause-printed
returns-clause-printed g c =
    telling_written c.args.text.now c.args.deck.now c.args.question c.args.place c.in_ok-answer.answer.items c.as_slice.result.now _ _
    c.in_ok-answer.ensures.told c.as_slice.ensures.value c.in_ok-put.ensures.written

pub returns-in_err-put-clause-front : goal.returns-in_err-put-clause-front
returns-in_err-put-clause-front g c =
    inr (front_of_bytes c.as_slice.result.now (λ after.
    telling_written c.args.text.now c.args.deck.now c.args.question c.args.place c.in_ok-answer.answer.items c.as_slice.result.now _ after
    c.in_ok-answer.ensures.told c.as_slice.ensures.value) c.in_err-put.ensures.front)

pub returns-clause-front : goal.returns-clause-front
returns-clause-front g c =
    inr (front_of_bytes c.as_slice.result.now (λ after.
    telling_written c.args.text.now c.args.deck.now c.args.question c.args.place c.in_ok-answer.answer.items c.as_slice.result.now _ after
    c.in_ok-answer.ensures.told c.as_slice.ensures.value) c.in_ok-put.ensures.front)
