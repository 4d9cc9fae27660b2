use Rattle.hubs.specs.HubTable.HubTable.{entry_kinds, exit_kinds}
use Rattle.fault_wiring_slips.specs.HubWords.{near_kind}
use Rattle.fault_wiring_slips.proofs.hub.near_kind.Goals as goal

pub returns : goal.returns
unfolding near_kind exit_kinds entry_kinds
returns c = c.first_near.ensures
