use Rattle.std.proofs.Common.{sym, ◌∙◌}
use Rattle.wiring_text.proofs.WiringReader.SetupSteps.{no_exit_put, none_is_no_exit, out_is_no_exit, none_is_no_entry, wire_put, none_named}
use Rattle.wiring_text.proofs.wiring_reader.panel.put_wire.Goals as goal

pub returns-in_default : goal.returns-in_default
returns-in_default c =
    no_exit_put _ _ _ _ (none_is_no_exit c.args.exit _ (none_named c.args.exit c.named.result c.in_default.is c.named.ensures.found))

pub returns-then-not-is_exit : goal.returns-then-not-is_exit
returns-then-not-is_exit c = no_exit_put _ _ _ _ (out_is_no_exit _ _ c.in-Some.from c.in-Some.ensures.named (sym c.is_exit.ensures ∙ c.if-not-is_exit.true))

pub returns-in_default-named : goal.returns-in_default-named
returns-in_default-named c =
    no_exit_put _ _ _ _ (none_is_no_entry _ c.args.entry c.in-Some.from c.in-Some.ensures.named (sym c.is_exit.ensures ∙ c.if-not-is_exit.false)
    (none_named c.args.entry c.named-2.result c.in_default-named.is c.named-2.ensures.found))

pub returns : goal.returns
returns c =
    let add = c.add.ensures in
    wire_put _ _ _ _ c.in-Some.from c.in-Some-named.to c.add.result c.in-Some.ensures.named c.in-Some-named.ensures.named
    add.wires add.was_there add.jacks add.tape
    (record { not_exit = add.not_exit; not_entry = add.not_entry; carry = add.carry; memory = add.memory })
