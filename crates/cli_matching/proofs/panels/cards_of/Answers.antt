use Rattle.std.proofs.lemmas.Result.{err_from_is_err_and}
use Rattle.fault_lines.proofs.ProgramIo.Refusing.{deck_refused}
use Rattle.cli_matching.proofs.panels.cards_of.Goals as goal

pub returns-in_err-read_deck-clause-refused : goal.returns-in_err-read_deck-clause-refused
returns-in_err-read_deck-clause-refused c =
    let exit = err_from_is_err_and c.from_residual.result c.from_residual.ensures.1 in
    rw exit.1 (deck_refused c.args.deck.now c.in_err-read_deck.field-0.0 exit.0 c.in_err-read_deck.ensures.fault exit.2)
