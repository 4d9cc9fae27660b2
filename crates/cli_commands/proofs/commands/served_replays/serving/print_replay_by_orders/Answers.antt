use Rattle.std.proofs.Common.{◌≡◌, refl, []}
use Rattle.std.proofs.lemmas.Result.{err_from_is_err_and}
use Rattle.fault_lines.proofs.ProgramIo.Stopping.{no_file, no_file_stops, refusal_stops, stops_for_deck}
use Rattle.cli_commands.proofs.CommandsWords.ServedReplays.Printing.{front_of_read, refused_for_any}
use Rattle.cli_commands.proofs.CommandsWords.ServedReplays.Refusing.{refusal_status}
use Rattle.cli_commands.specs.CommandsWords.ServedReplays.Refusals.{RefusesByOrders}
use Rattle.cli_commands.proofs.commands.served_replays.serving.print_replay_by_orders.Goals as goal

pub returns-in_err-check_orders-in-Err-clause-refused :
    goal.returns-in_err-check_orders-in-Err-clause-refused
returns-in_err-check_orders-in-Err-clause-refused g c =
    let exit = err_from_is_err_and c.from_residual.result c.from_residual.ensures.1 in
    rw exit.1 (λ three. (
      refused_for_any c.args.wiring.now c.args.orders.now (g.R.Read.remaining c.args.deck) c.in_err-check_orders-in-Err.field-0.0 exit.0
          c.in_err-check_orders-in-Err.ensures.refused exit.2 three,
      refl,
    ))

pub returns-in_err-check_orders-in-Err-clause-stopped :
    goal.returns-in_err-check_orders-in-Err-clause-stopped
returns-in_err-check_orders-in-Err-clause-stopped g c =
    let exit = err_from_is_err_and c.from_residual.result c.from_residual.ensures.1 in
    rw exit.1 (refusal_stops (RefusesByOrders c.args.wiring.now c.args.orders.now []) (refusal_status c.args.wiring.now c.args.orders.now [])
    c.in_err-check_orders-in-Err.field-0.0 exit.0 (λ not_memory. c.in_err-check_orders-in-Err.ensures.refused not_memory []) exit.2 _ _ refl)

pub returns-in-Ok-clause-stopped : goal.returns-in-Ok-clause-stopped
returns-in-Ok-clause-stopped g c = stops_for_deck c.print_pages.result _ _ c.print_pages.ensures.stopped

pub returns-in_err-check_orders-in-Err-clause-unread :
    goal.returns-in_err-check_orders-in-Err-clause-unread
returns-in_err-check_orders-in-Err-clause-unread g c =
    let exit = err_from_is_err_and c.from_residual.result c.from_residual.ensures.1 in
    rw exit.1 (λ is. absurd (no_file_stops exit.0 (c.args.out.now ≡ c.args.out.now)
    (refusal_stops (RefusesByOrders c.args.wiring.now c.args.orders.now []) (refusal_status c.args.wiring.now c.args.orders.now [])
    c.in_err-check_orders-in-Err.field-0.0 exit.0 (λ not_memory. c.in_err-check_orders-in-Err.ensures.refused not_memory []) exit.2 _ _ refl) is))

pub returns-in-Ok-clause-unread : goal.returns-in-Ok-clause-unread
returns-in-Ok-clause-unread g c = no_file c.print_pages.result _ _ _ c.print_pages.ensures.stopped

pub returns-in-Ok-clause-front : goal.returns-in-Ok-clause-front
returns-in-Ok-clause-front g c =
    front_of_read c.args.wiring.now c.args.orders.now c.as_slice.result.now c.in-Ok.bytes.items (g.R.Read.remaining c.args.deck)
    c.as_slice.ensures.value c.in-Ok.ensures.whole c.print_pages.ensures.front
