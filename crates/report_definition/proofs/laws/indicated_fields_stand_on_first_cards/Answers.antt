use Rattle.report_definition.proofs.Indicated.{indicated}
use Rattle.report_definition.proofs.laws.indicated_fields_stand_on_first_cards.Goals as goal

pub returns : goal.returns
returns c = indicated
