use Rattle.report_definition.proofs.RisingPlaces.{places_rise}
use Rattle.report_definition.proofs.laws.places_rise.Goals as goal

pub returns : goal.returns
returns c = places_rise
