use Rattle.report_runs.proofs.FirstCauses.{misfits_are_the_decks}
use Rattle.report_runs.proofs.laws.misfits_are_the_decks.Goals as goal

pub returns : goal.returns
returns c = misfits_are_the_decks
