use Rattle.hubs.proofs.SetupsWords.WiredLemmas.{HasWire-is_wired}
use Rattle.hubs.proofs.setups.laws.is_wired_tells_the_wires.Goals as goal

pub returns : goal.returns
returns c = HasWire-is_wired
