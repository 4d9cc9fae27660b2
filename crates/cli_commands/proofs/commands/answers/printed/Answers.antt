use Rattle.std.proofs.Common.{subst, sym, ◌∙◌, ap}
use Rattle.std.proofs.lemmas.Result.{err_from_is_err_and}
use Rattle.card_code.specs.Deck.{Deck}
use Rattle.page_text.specs.Pages.{Pages}
use Rattle.fault_lines.proofs.ProgramIo.Refusing.{deck_refused}
use Rattle.cli_commands.proofs.commands.answers.printed.Goals as goal

pub returns-in_err-cards-clause-refused : goal.returns-in_err-cards-clause-refused
returns-in_err-cards-clause-refused c =
    let exit = err_from_is_err_and c.from_residual.result c.from_residual.ensures.1 in
    rw exit.1 (deck_refused c.args.deck.now c.in_err-cards.field-0.0 exit.0 c.in_err-cards.ensures.fault exit.2)

pub returns-in_err-lines-clause-refused : goal.returns-in_err-lines-clause-refused
returns-in_err-lines-clause-refused c =
    let exit = err_from_is_err_and c.from_residual-in_err-lines.result c.from_residual-in_err-lines.ensures.1 in
    rw exit.1 (λ not_memory. absurd (not_memory exit.2))

pub returns-in_err-page_bytes-clause-refused : goal.returns-in_err-page_bytes-clause-refused
returns-in_err-page_bytes-clause-refused c =
    let exit = err_from_is_err_and c.from_residual-in_err-page_bytes.result c.from_residual-in_err-page_bytes.ensures.1 in
    rw exit.1 (λ not_memory. absurd (not_memory exit.2))

pub returns-clause-pages : goal.returns-clause-pages
returns-clause-pages c =
    let long = c.from.ensures ∙ c.lines-long.ensures.value ∙ ap (λ tape. tape.lines) c.tape.ensures.value in
    record {
      cards = c.as_slice.result.now;
      punched = subst (Deck c.args.deck.now) (sym c.as_slice.ensures.value) c.in_ok-cards.ensures.deck;
      lines = c.in_ok-lines.lines.items;
      run = c.in_ok-lines.ensures.lines;
      printed = c.in_ok-page_bytes.ensures ∙ ap (λ lines. Pages lines c.from.result) c.as_slice-2.ensures.value
          ∙ ap (Pages c.in_ok-lines.lines.items) long;
    }
