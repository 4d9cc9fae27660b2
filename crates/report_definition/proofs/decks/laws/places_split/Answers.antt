use Rattle.report_definition.proofs.FollowedDecks.Places.{places_split}
use Rattle.report_definition.proofs.decks.laws.places_split.Goals as goal

pub returns : goal.returns
returns c = places_split
