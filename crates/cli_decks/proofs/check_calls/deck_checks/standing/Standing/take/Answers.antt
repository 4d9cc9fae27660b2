use Rattle.std.proofs.Common.{refl}
use Rattle.cli_decks.specs.CheckCalls.DeckChecks.HelperStanding.{bad, good}
use Rattle.cli_decks.proofs.check_calls.deck_checks.standing.Standing.take.Goals as goal

pub returns-in-Ok-clause-takes : goal.returns-in-Ok-clause-takes
returns-in-Ok-clause-takes c = λ so_far at.
    good c.in-Ok.card c.in-Ok.ensures.good (c.take_card.ensures.told so_far at) (c.take_card.ensures.goes_on so_far at)

pub returns-in-Err-clause-takes : goal.returns-in-Err-clause-takes
returns-in-Err-clause-takes c = λ so_far at. bad c.in-Err.fault c.in-Err.ensures.bad refl refl
