use Rattle.report_definition.proofs.FollowedDecks.Pages.{pages_numbered}
use Rattle.report_definition.proofs.decks.laws.pages_have_numbers.Goals as goal

pub returns : goal.returns
returns c = pages_numbered
