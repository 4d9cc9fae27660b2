use Rattle.std.proofs.Common.{subst, sym}
use Rattle.std.proofs.lemmas.Result.{err_from_is_err_and}
use Rattle.card_code.specs.Deck.{Deck}
use Rattle.cli_commands.specs.CommandsWords.Refusals.{punches}
use Rattle.cli_commands.proofs.CommandsWords.Refusing.{cards_refused}
use Rattle.fault_lines.proofs.ProgramIo.Refusing.{deck_refused}
use Rattle.cli_commands.proofs.commands.answers.reported.Goals as goal

pub returns-in_err-cards-clause-refused : goal.returns-in_err-cards-clause-refused
returns-in_err-cards-clause-refused c =
    let exit = err_from_is_err_and c.from_residual.result c.from_residual.ensures.1 in
    rw exit.1 (λ not_memory text compiles. punches c.args.compiled.now compiles
    (deck_refused c.args.deck.now c.in_err-cards.field-0.0 exit.0 c.in_err-cards.ensures.fault exit.2 not_memory))

pub returns-in_err-run-clause-refused : goal.returns-in_err-run-clause-refused
returns-in_err-run-clause-refused c =
    let exit = err_from_is_err_and c.from_residual-in_err-run.result c.from_residual-in_err-run.ensures.1 in
    rw exit.1 (λ not_memory text compiles.
    cards_refused text c.args.deck.now c.args.compiled.now c.as_slice.result.now c.in_err-run.field-0.0 exit.0 compiles
    (subst (Deck c.args.deck.now) (sym c.as_slice.ensures.value) c.in_ok-cards.ensures.deck) c.in_err-run.ensures.refused exit.2 not_memory)

pub returns-in_err-cards-clause-pages : goal.returns-in_err-cards-clause-pages
returns-in_err-cards-clause-pages c = rw (err_from_is_err_and c.from_residual.result c.from_residual.ensures.1).1 tt

pub returns-in_err-run-clause-pages : goal.returns-in_err-run-clause-pages
returns-in_err-run-clause-pages c =
    rw (err_from_is_err_and c.from_residual-in_err-run.result c.from_residual-in_err-run.ensures.1).1 tt

pub returns-clause-pages : goal.returns-clause-pages
returns-clause-pages c = λ text compiles.
    record {
      compiled = c.args.compiled.now;
      compiles = compiles;
      cards = c.as_slice.result.now;
      punched = subst (Deck c.args.deck.now) (sym c.as_slice.ensures.value) c.in_ok-cards.ensures.deck;
      runnable = c.in_ok-run.ensures.served;
      reported = c.in_ok-run.ensures.report;
    }
