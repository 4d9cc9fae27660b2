use Rattle.std.proofs.Common.{arith, length, sym}
use Rattle.std.proofs.lemmas.Bool.{eqb-true}
use Rattle.hubs.proofs.SetupsWords.WireLists.{no_exit, none_listed, wires_from}
use Rattle.hubs.proofs.SetupsWords.WireLists.{on_ok}
use Rattle.hubs.proofs.setups.wires.list_from.Goals as goal

pub returns-in_default : goal.returns-in_default
returns-in_default c = no_exit c.args.setup.now c.args.number c.args.wires.now.items c.in_default.ensures.found

pub returns-then-is_empty : goal.returns-then-is_empty
returns-then-is_empty c =
    wires_from c.args.setup.now c.args.number c.in-Some.exit c.entries_of-entries.result.now c.args.wires.now.items
    c.args.wires.now.items c.in-Some.ensures.numbered c.in-Some.ensures.found c.entries_of-entries.ensures.value
    (none_listed c.in-Some.exit c.entries_of-entries.result.now c.args.wires.now.items
    (λ n has. omega (arith, has.1, eqb-true (length c.entries_of-entries.result.now) 0 (sym c.if-is_empty.ensures))))

pub returns : goal.returns
returns c =
    on_ok c.list_to.result _ _
    (wires_from c.args.setup.now c.args.number c.in-Some.exit c.entries_of-entries.result.now c.args.wires.now.items
    c.list_to.new.wires.items c.in-Some.ensures.numbered c.in-Some.ensures.found c.entries_of-entries.ensures.value)
    c.list_to.ensures
