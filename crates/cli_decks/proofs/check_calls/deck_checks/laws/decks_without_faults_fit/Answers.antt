use Rattle.cli_decks.proofs.CheckCalls.DeckChecks.Silent.{decks_without_faults}
use Rattle.cli_decks.proofs.check_calls.deck_checks.laws.decks_without_faults_fit.Goals as goal

pub returns : goal.returns
returns c = decks_without_faults
