use Rattle.report_definition.proofs.FollowedDecks.FitBefore.{fit_before_misfits}
use Rattle.report_definition.proofs.decks.laws.totals_fit_before_the_first_misfit.Goals as goal

pub returns : goal.returns
returns c = fit_before_misfits
