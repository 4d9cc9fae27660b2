use Rattle.std.proofs.Common.{refl}
use Rattle.std.proofs.lemmas.Result.{err_from_is_err_and}
use Rattle.fault_lines.proofs.ProgramIo.Refusing.{deck_refused, refusal_is_not_memory}
use Rattle.cli_commands.proofs.CommandsWords.PrintedPages.{printed_front, printed_whole}
use Rattle.cli_commands.proofs.CommandsWords.Refusing.{wiring_refused}
use Rattle.cli_commands.specs.CommandsWords.Refusals.{punches}
use Rattle.cli_commands.proofs.commands.replaying.print_replay.Goals as goal

pub returns-in_err-setup-clause-refused : goal.returns-in_err-setup-clause-refused
returns-in_err-setup-clause-refused g c =
    let exit = err_from_is_err_and c.from_residual.result c.from_residual.ensures.1 in
    rw exit.1 (λ three. (
      wiring_refused c.args.wiring.now c.args.deck.now c.in_err-setup.field-0.0 exit.0 c.in_err-setup.ensures.fault exit.2
          (refusal_is_not_memory exit.0 three),
      refl,
    ))

pub returns-in_err-check_deck-clause-refused : goal.returns-in_err-check_deck-clause-refused
returns-in_err-check_deck-clause-refused g c =
    let exit = err_from_is_err_and c.from_residual-in_err-check_deck.result c.from_residual-in_err-check_deck.ensures.1 in
    rw exit.1 (λ three. (
      punches c.in_ok-setup.setup c.in_ok-setup.ensures.read
          (deck_refused c.args.deck.now c.in_err-check_deck.field-0.0 exit.0 (λ other. c.in_err-check_deck.ensures.fault) exit.2
          (refusal_is_not_memory exit.0 three)),
      refl,
    ))

pub returns-clause-pages : goal.returns-clause-pages
returns-clause-pages g c =
    printed_whole c.args.wiring.now c.args.deck.now c.in_ok-setup.setup c.in_ok-setup.ensures.read c.print_deck.result _ _
    c.print_deck.ensures.pages

pub returns-clause-front : goal.returns-clause-front
returns-clause-front g c =
    printed_front c.args.wiring.now c.args.deck.now c.in_ok-setup.setup c.in_ok-setup.ensures.read c.print_deck.result _ _ _
    c.print_deck.ensures.pages c.print_deck.ensures.front
