use Rattle.std.proofs.Common.{◌-◌, ◌+◌, vec_len}
use Rattle.hubs.specs.SetupsWords.Rows.{SameRows}
use Rattle.hubs.proofs.setups.setup.make_places.Given as goal

abbrev pub invariant-loop-wires : goal.invariant-loop-wires
invariant-loop-wires l = SameRows l.initial.wires.items l.wires.items

abbrev pub decreases-loop-wires : goal.decreases-loop-wires
decreases-loop-wires l = l.place + 1 - vec_len l.wires
