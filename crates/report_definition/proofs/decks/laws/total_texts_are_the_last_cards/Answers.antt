use Rattle.report_definition.proofs.FollowedDecks.Alike.{total_texts}
use Rattle.report_definition.proofs.decks.laws.total_texts_are_the_last_cards.Goals as goal

pub returns : goal.returns
returns c = total_texts
