use Rattle.std.proofs.Common.{inr, refl}
use Rattle.std.proofs.lemmas.Result.{err_from_is_err_and}
use Rattle.cli_commands.proofs.CommandsWords.ServedReplays.Printing.{served_in_memory}
use Rattle.cli_commands.proofs.CommandsWords.ServedReplays.Refusing.{refusal_status}
use Rattle.cli_commands.specs.CommandsWords.ServedReplays.Refusals.{RefusesByOrders}
use Rattle.fault_lines.proofs.ProgramIo.Stopping.{refused_on}
use Rattle.fault_lines.proofs.ProgramIo.Fronting.{front_of_bytes}
use Rattle.cli_commands.proofs.commands.served_replays.serving.print_pages.Goals as goal

pub returns-in_err-pages-clause-refused : goal.returns-in_err-pages-clause-refused
returns-in_err-pages-clause-refused g c =
    let exit = err_from_is_err_and c.from_residual.result c.from_residual.ensures.1 in
    rw exit.1 (λ three. (
      refused_on (RefusesByOrders c.args.wiring.now c.args.orders.now c.args.deck.now)
          (refusal_status c.args.wiring.now c.args.orders.now c.args.deck.now) c.in_err-pages.field-0.0 exit.0 c.in_err-pages.ensures.refused exit.2
          three,
      refl,
    ))

pub returns-in_err-put-clause-front : goal.returns-in_err-put-clause-front
returns-in_err-put-clause-front g c =
    inr (
      c.in_ok-pages.field-0.counts,
      front_of_bytes c.as_slice.result.now (λ after.
          served_in_memory c.args.wiring.now c.args.orders.now c.args.deck.now c.in_ok-pages.field-0.pages.items c.as_slice.result.now c.in_ok-pages.field-0.counts _
          after c.as_slice.ensures.value c.in_ok-pages.ensures.served) c.in_err-put.ensures.front,
    )

pub returns-clause-front : goal.returns-clause-front
returns-clause-front g c =
    inr (
      c.in_ok-pages.field-0.counts,
      front_of_bytes c.as_slice.result.now (λ after.
          served_in_memory c.args.wiring.now c.args.orders.now c.args.deck.now c.in_ok-pages.field-0.pages.items c.as_slice.result.now c.in_ok-pages.field-0.counts _
          after c.as_slice.ensures.value c.in_ok-pages.ensures.served) c.in_ok-put.ensures.front,
    )
