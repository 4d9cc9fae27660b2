use Rattle.std.proofs.Common.{refl}
use Rattle.std.proofs.lemmas.Bool.{false≢true}
use Rattle.hubs.proofs.SetupsWords.WireLists.{no_entry, not_listed, wire_gained}
use Rattle.hubs.proofs.setups.wires.list_wire.Goals as goal

pub returns-then-not-is_listed : goal.returns-then-not-is_listed
returns-then-not-is_listed c =
    not_listed c.args.exit c.args.entries.now c.args.number c.args.wires.now.items
    (λ has. false≢true (c.if-not-is_listed.ensures.1 has))

pub returns-in_ok-push-in-Some : goal.returns-in_ok-push-in-Some
returns-in_ok-push-in-Some c =
    wire_gained c.args.exit c.in-Some.entry c.args.entries.now c.args.number c.from.result c.from.ensures c.args.wires.now.items
    c.push.new.self.items (c.if-not-is_listed.ensures.0 refl) c.in-Some.ensures.numbered c.in-Some.ensures.found
    c.in_ok-push-in-Some.ensures.items

pub returns-in-None : goal.returns-in-None
returns-in-None c =
    no_entry c.args.exit c.args.entries.now c.args.number c.from.result c.from.ensures c.args.wires.now.items
    c.in-None.ensures.found
