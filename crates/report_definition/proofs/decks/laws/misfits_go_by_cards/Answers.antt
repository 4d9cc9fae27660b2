use Rattle.report_definition.proofs.FollowedDecks.Misfits.{misfits_of_cards}
use Rattle.report_definition.proofs.decks.laws.misfits_go_by_cards.Goals as goal

pub returns : goal.returns
returns c = misfits_of_cards
