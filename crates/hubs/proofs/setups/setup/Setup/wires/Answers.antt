use Rattle.std.proofs.Common.{List, [], subst, sym}
use Rattle.hubs.specs.declared.hub.Hub.{Hub}
use Rattle.hubs.specs.SetupsWords.Wires.{GainsWires, IsWireFromBelow}
use Rattle.hubs.proofs.SetupsWords.WireLists.{all_exits, exit_more, no_exits}
use Rattle.hubs.proofs.setups.setup.Setup.wires.Goals as goal

pub loop-number-init : goal.loop-number-init
loop-number-init c =
    subst (λ (l : List (Hub × Hub)). GainsWires (IsWireFromBelow c.args.self.now 1) [] l) (sym c.new-wires.ensures.items)
    (no_exits c.args.self.now [])

pub loop-number-preserved : goal.loop-number-preserved
loop-number-preserved c =
    exit_more c.args.self.now c.loop-number.number [] c.loop-number.wires.items c.list_from.new.wires.items
    c.loop-number.invariant c.in_ok-list_from.ensures

pub returns : goal.returns
returns c =
    all_exits c.args.self.now c.loop-number.number c.loop-number.wires.items c.loop-number-test.false c.loop-number.invariant
