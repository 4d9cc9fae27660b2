use Rattle.compile407.proofs.BlankDecks.{blank_decks_are_runnable}
use Rattle.compile407.proofs.laws.blank_decks_are_runnable.Goals as goal

pub returns : goal.returns
returns c = blank_decks_are_runnable
