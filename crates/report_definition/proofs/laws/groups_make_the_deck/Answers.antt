use Rattle.report_definition.proofs.GroupLaws.{groups_deck}
use Rattle.report_definition.proofs.laws.groups_make_the_deck.Goals as goal

pub returns : goal.returns
returns c = groups_deck
