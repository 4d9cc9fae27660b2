use Rattle.report_definition.proofs.FollowedDecks.Pages.{pages_few}
use Rattle.report_definition.proofs.decks.laws.pages_are_few.Goals as goal

pub returns : goal.returns
returns c = pages_few
