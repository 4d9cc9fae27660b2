use Rattle.report_definition.proofs.FollowedDecks.Begins.{reports_begin}
use Rattle.report_definition.proofs.decks.laws.reports_begin_by_cards.Goals as goal

pub returns : goal.returns
returns c = reports_begin
