use Rattle.report_definition.proofs.FollowedDecks.FitSoFar.{fits_end}
use Rattle.report_definition.proofs.decks.laws.fits_so_far_end.Goals as goal

pub returns : goal.returns
returns c = fits_end
