use Rattle.machine_served.proofs.ServedUnits.AnyUnitKeeps.{any_unit_keeps}
use Rattle.machine_served.proofs.served_units.runs.units_keep_to_their_own.Goals as goal

pub returns : goal.returns
returns c = any_unit_keeps
