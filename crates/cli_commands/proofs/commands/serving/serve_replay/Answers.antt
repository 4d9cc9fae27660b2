use Rattle.std.proofs.Common.{◌≡◌, refl}
use Rattle.std.proofs.lemmas.Result.{err_from_is_err_and}
use Rattle.cli_commands.proofs.CommandsWords.Outcomes.{replay_done, replay_refused, replay_written, wiring_refused_for_any}
use Rattle.fault_lines.proofs.ProgramIo.Stopping.{no_file, no_file_stops, stops_for_deck, wiring_stops}
use Rattle.fault_lines.proofs.ProgramIo.Fronting.{none_or_front_again}
use Rattle.cli_commands.proofs.commands.serving.serve_replay.Goals as goal

pub returns-in-Ok-clause-done : goal.returns-in-Ok-clause-done
returns-in-Ok-clause-done g c =
    replay_done c.print_replay.result c.args.text.now c.as_slice.result.now c.in-Ok.bytes.items (g.R.Read.remaining c.args.deck) _ _
    c.as_slice.ensures.value c.in-Ok.ensures.whole c.print_replay.ensures.pages

pub returns-in-Ok-clause-refused : goal.returns-in-Ok-clause-refused
returns-in-Ok-clause-refused g c =
    replay_refused c.print_replay.result c.args.text.now c.as_slice.result.now c.in-Ok.bytes.items (g.R.Read.remaining c.args.deck) _
    c.as_slice.ensures.value c.in-Ok.ensures.whole c.print_replay.ensures.refused

pub returns-in-Ok-clause-stopped : goal.returns-in-Ok-clause-stopped
returns-in-Ok-clause-stopped g c = stops_for_deck c.print_replay.result _ _ c.print_replay.ensures.stopped

pub returns-in_err-read_setup-in-Err-clause-refused : goal.returns-in_err-read_setup-in-Err-clause-refused
returns-in_err-read_setup-in-Err-clause-refused g c =
    let exit = err_from_is_err_and c.from_residual.result c.from_residual.ensures.1 in
    rw exit.1 (λ three. (
      wiring_refused_for_any c.args.text.now (g.R.Read.remaining c.args.deck) c.in_err-read_setup-in-Err.field-0.0 exit.0
          c.in_err-read_setup-in-Err.ensures.fault exit.2 three,
      refl,
    ))

pub returns-in-Ok-clause-unread : goal.returns-in-Ok-clause-unread
returns-in-Ok-clause-unread g c = no_file c.print_replay.result _ _ _ c.print_replay.ensures.stopped

pub returns-in_err-read_setup-in-Err-clause-unread : goal.returns-in_err-read_setup-in-Err-clause-unread
returns-in_err-read_setup-in-Err-clause-unread g c =
    let exit = err_from_is_err_and c.from_residual.result c.from_residual.ensures.1 in
    rw exit.1 (λ is. absurd (no_file_stops exit.0 (c.args.out.now ≡ c.args.out.now)
    (wiring_stops exit.0 _ _ c.in_err-read_setup-in-Err.field-0.0 exit.2 refl) is))

pub returns-in_ok-read_setup-in-Err-clause-unread : goal.returns-in_ok-read_setup-in-Err-clause-unread
returns-in_ok-read_setup-in-Err-clause-unread g c = λ is. (c.in_ok-read_setup-in-Err.field-0, c.in_ok-read_setup-in-Err.ensures.read)

pub returns-in-Ok-clause-front : goal.returns-in-Ok-clause-front
returns-in-Ok-clause-front g c =
    none_or_front_again (λ after prints.
    replay_written c.args.text.now c.as_slice.result.now c.in-Ok.bytes.items (g.R.Read.remaining c.args.deck) _ after
    c.as_slice.ensures.value c.in-Ok.ensures.whole prints) c.print_replay.ensures.front
