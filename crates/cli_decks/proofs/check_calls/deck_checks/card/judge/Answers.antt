use Rattle.std.proofs.Common.{refl}
use Rattle.std.proofs.lemmas.Result.{err_from_is_err_and}
use Rattle.card_code.proofs.Characters.{characters-punched}
use Rattle.cli_decks.proofs.CheckCalls.DeckChecks.Cards.{invalid_is_bad}
use Rattle.cli_decks.specs.CheckCalls.DeckChecks.BadLines.{no_card}
use Rattle.cli_decks.proofs.check_calls.deck_checks.card.judge.Goals as goal

pub valid_read_card-requires : goal.valid_read_card-requires
valid_read_card-requires c = characters-punched c.args.line.now c.in_ok-card.card c.in_ok-card.ensures.card

pub returns-in_err-card-clause-bad : goal.returns-in_err-card-clause-bad
returns-in_err-card-clause-bad c =
    let p = err_from_is_err_and c.from_residual.result c.from_residual.ensures.1 in
    rw (p.1, p.2) (no_card _ c.in_err-card.ensures.fault refl)

pub returns-in-Err-clause-bad : goal.returns-in-Err-clause-bad
returns-in-Err-clause-bad c =
    rw (c.into.ensures, c.of_card.ensures)
    (invalid_is_bad c.args.chart.now c.args.number c.args.line.now c.in_ok-card.card c.in-Err.fault c.in_ok-card.ensures.card c.in-Err.ensures.first)
