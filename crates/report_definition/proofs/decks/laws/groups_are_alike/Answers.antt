use Rattle.report_definition.proofs.FollowedDecks.Alike.{groups_alike}
use Rattle.report_definition.proofs.decks.laws.groups_are_alike.Goals as goal

pub returns : goal.returns
returns c = groups_alike
