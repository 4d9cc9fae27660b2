use Rattle.counters.proofs.ControlHubs.{unit_of-group_of_unit}
use Rattle.counters.proofs.laws.groups_are_numbered.Goals as goal

pub returns : goal.returns
returns c = unit_of-group_of_unit
