use Rattle.report_definition.proofs.Fitting.{fit_without_misfits}
use Rattle.report_definition.proofs.laws.decks_fit_without_misfits.Goals as goal

pub returns : goal.returns
returns c = fit_without_misfits
