use Rattle.report_definition.proofs.FollowedDecks.FirstMisfits.{fit_before_first}
use Rattle.report_definition.proofs.decks.laws.groups_fit_before_the_first_misfit.Goals as goal

pub returns : goal.returns
returns c = fit_before_first
