use Rattle.std.specs.Prelude.{[]}
use Rattle.hubs.specs.SetupsWords.Wires.{GainsWires, IsWireFromBelow}
use Rattle.hubs.proofs.setups.setup.Setup.wires.Given as goal

abbrev pub invariant-loop-number : goal.invariant-loop-number
invariant-loop-number l = GainsWires (IsWireFromBelow l.self l.number) [] l.wires.items
