use Rattle.hubs.proofs.SetupsWords.WireLists.{all_entries, entry_more, no_entries}
use Rattle.hubs.proofs.setups.wires.list_to.Goals as goal

pub loop-number-init : goal.loop-number-init
loop-number-init c = no_entries c.args.exit c.args.entries.now c.args.wires.now.items c.requires.entries

pub loop-number-preserved : goal.loop-number-preserved
loop-number-preserved c =
    entry_more c.args.exit c.args.entries.now c.loop-number.number c.args.wires.now.items c.loop-number.wires.items
    c.list_wire.new.wires.items c.loop-number.invariant c.in_ok-list_wire.ensures

pub returns : goal.returns
returns c =
    all_entries c.args.exit c.args.entries.now c.loop-number.number c.args.wires.now.items c.loop-number.wires.items
    c.loop-number-test.false c.requires.entries c.loop-number.invariant
