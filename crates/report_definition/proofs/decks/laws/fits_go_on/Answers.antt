use Rattle.report_definition.proofs.FollowedDecks.FitSoFar.{fits_go_on}
use Rattle.report_definition.proofs.decks.laws.fits_go_on.Goals as goal

pub returns : goal.returns
returns c = fits_go_on
