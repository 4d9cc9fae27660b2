use Rattle.std.proofs.Common.{inr, refl, []}
use Rattle.std.proofs.lemmas.Result.{err_from_is_err_and}
use Rattle.fault_lines.specs.declared.program_io.command.Command.TheVariants as command
use Rattle.cli_commands.proofs.CommandsWords.Outcomes.{check_done, check_written, refused_for_any}
use Rattle.cli_commands.proofs.CommandsWords.Stopping.{texts_stop}
use Rattle.fault_lines.proofs.ProgramIo.Stopping.{output_stops_any}
use Rattle.fault_lines.proofs.ProgramIo.Fronting.{front_of_bytes}
use Rattle.cli_commands.proofs.commands.serving.serve_check.Goals as goal

pub returns-in_err-check-clause-refused : goal.returns-in_err-check-clause-refused
returns-in_err-check-clause-refused g c =
    let exit = err_from_is_err_and c.from_residual.result c.from_residual.ensures.1 in
    rw exit.1 (λ three. (
      refused_for_any command.Check c.args.text.now c.in_err-check.field-0.0 exit.0 (λ read. c.in_err-check.ensures.refused) exit.2 three,
      refl,
    ))

pub returns-clause-done : goal.returns-clause-done
returns-clause-done g c = check_done c.put.result c.args.text.now _ _ c.in_ok-check.ensures.compiles c.put.ensures.written

pub returns-in_err-check-clause-stopped : goal.returns-in_err-check-clause-stopped
returns-in_err-check-clause-stopped g c =
    let exit = err_from_is_err_and c.from_residual.result c.from_residual.ensures.1 in
    rw exit.1 (λ unreadable.
    texts_stop exit.0 unreadable _ command.Check c.args.text.now [] c.in_err-check.field-0.0 c.in_err-check.ensures.refused exit.2 refl)

pub returns-clause-stopped : goal.returns-clause-stopped
returns-clause-stopped g c = output_stops_any c.put.result _ c.put.ensures.told

pub returns-clause-front : goal.returns-clause-front
returns-clause-front g c =
    inr (λ deck. front_of_bytes _ (λ after written. check_written c.args.text.now _ after c.in_ok-check.ensures.compiles written deck)
    c.put.ensures.front)
