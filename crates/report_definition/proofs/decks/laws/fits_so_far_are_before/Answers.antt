use Rattle.report_definition.proofs.FollowedDecks.FitSoFar.{fits_before}
use Rattle.report_definition.proofs.decks.laws.fits_so_far_are_before.Goals as goal

pub returns : goal.returns
returns c = fits_before
