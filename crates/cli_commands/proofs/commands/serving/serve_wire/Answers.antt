use Rattle.std.proofs.Common.{inr, refl, []}
use Rattle.std.proofs.lemmas.Result.{err_from_is_err_and}
use Rattle.std.specs.Prelude.{string_bytes}
use Rattle.fault_lines.specs.declared.program_io.command.Command.TheVariants as command
use Rattle.cli_commands.proofs.CommandsWords.Outcomes.{refused_for_any, wire_done, wire_written}
use Rattle.cli_commands.proofs.CommandsWords.Stopping.{texts_stop}
use Rattle.fault_lines.proofs.ProgramIo.Stopping.{output_stops_any}
use Rattle.fault_lines.proofs.ProgramIo.Fronting.{front_of_bytes}
use Rattle.cli_commands.proofs.commands.serving.serve_wire.Goals as goal

pub returns-in_err-written-clause-refused : goal.returns-in_err-written-clause-refused
returns-in_err-written-clause-refused g c =
    let exit = err_from_is_err_and c.from_residual.result c.from_residual.ensures.1 in
    rw exit.1 (λ three. (
      refused_for_any command.Wire c.args.text.now c.in_err-written.field-0.0 exit.0 (λ read. c.in_err-written.ensures.refused) exit.2 three,
      refl,
    ))

pub returns-clause-done : goal.returns-clause-done
returns-clause-done g c =
    wire_done c.put.result c.args.text.now (string_bytes c.in_ok-written.written) c.as_bytes.result.now _ _ c.in_ok-written.ensures.written
    c.as_bytes.ensures.value c.put.ensures.written

pub returns-in_err-written-clause-stopped : goal.returns-in_err-written-clause-stopped
returns-in_err-written-clause-stopped g c =
    let exit = err_from_is_err_and c.from_residual.result c.from_residual.ensures.1 in
    rw exit.1 (λ unreadable.
    texts_stop exit.0 unreadable _ command.Wire c.args.text.now [] c.in_err-written.field-0.0 c.in_err-written.ensures.refused exit.2 refl)

pub returns-clause-stopped : goal.returns-clause-stopped
returns-clause-stopped g c = output_stops_any c.put.result _ c.put.ensures.told

pub returns-clause-front : goal.returns-clause-front
returns-clause-front g c =
    inr (λ deck. front_of_bytes c.as_bytes.result.now (λ after written.
    wire_written c.args.text.now (string_bytes c.in_ok-written.written) c.as_bytes.result.now _ after c.in_ok-written.ensures.written
    c.as_bytes.ensures.value written deck) c.put.ensures.front)
