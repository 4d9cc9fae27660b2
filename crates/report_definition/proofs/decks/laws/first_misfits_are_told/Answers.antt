use Rattle.report_definition.proofs.FollowedDecks.FitSoFar.{first_told}
use Rattle.report_definition.proofs.decks.laws.first_misfits_are_told.Goals as goal

pub returns : goal.returns
returns c = first_told
