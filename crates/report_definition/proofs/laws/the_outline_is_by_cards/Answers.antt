use Rattle.report_definition.proofs.OutlineByCards.{deck_by_cards}
use Rattle.report_definition.proofs.laws.the_outline_is_by_cards.Goals as goal

pub returns : goal.returns
returns c = deck_by_cards
