use Rattle.hubs.specs.SetupsWords.Wires.{IsWireToBelow}
use Rattle.hubs.specs.SetupsWords.Wires.{GainsWires}
use Rattle.hubs.proofs.setups.wires.list_to.Given as goal

abbrev pub invariant-loop-number : goal.invariant-loop-number
invariant-loop-number l = GainsWires (IsWireToBelow l.exit l.entries l.number) l.fn.wires.items l.wires.items
