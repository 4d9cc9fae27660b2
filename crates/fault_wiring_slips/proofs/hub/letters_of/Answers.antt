use Rattle.hubs.specs.HubTable.HubTable.{entry_kinds, exit_kinds}
use Rattle.wiring_text.specs.WiringReader.Reading.{letters_spelled}
use Rattle.fault_wiring_slips.proofs.hub.letters_of.Goals as goal

pub returns : goal.returns
unfolding letters_spelled exit_kinds entry_kinds
returns c = c.first_spelled.ensures
