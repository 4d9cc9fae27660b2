use Rattle.std.proofs.Common.{◌≡◌, ◌∙◌, ◌<◌, sym, length, arith}
use Rattle.hubs.specs.SetupsWords.Fields.{wiring_of}
use Rattle.hubs.specs.SetupsWords.Rows.{numbers_at}
use Rattle.hubs.proofs.SetupsWords.RowLemmas.{row-numbers}
use Rattle.hubs.proofs.SetupsWords.WiringLemmas.{HasWire-by_number}
use Rattle.hubs.proofs.setups.setup.Setup.entries_of.Goals as goal

pub returns-in-Some-clause-lawful : goal.returns-in-Some-clause-lawful
returns-in-Some-clause-lawful c = rw (← c.self.view_is) c.self.invariant.lawful

pub returns-in_default-clause-lawful : goal.returns-in_default-clause-lawful
returns-in_default-clause-lawful c = rw (← c.self.view_is) c.self.invariant.lawful

pub returns-in-Some-clause-value : goal.returns-in-Some-clause-value
returns-in-Some-clause-value c =
    let wires = c.self.inside.wires in
    let within : c.in-Some.number < length wires.items = omega (arith, wires.ok.0, c.if-number-len.true, c.len.ensures) in
    let row : c.as_slice.result.now ≡ numbers_at wires.items c.in-Some.number =
    c.as_slice.ensures ∙ row-numbers wires.items c.in-Some.number c.index.result.now within c.index.ensures in
    λ entry number numbered.
    rw (← c.self.view_is, row)
    (HasWire-by_number (wiring_of c.self.inside) c.args.exit entry c.in-Some.number number (sym c.in-Some.ensures.value)
    numbered)

pub returns-in-Some-clause-entries : goal.returns-in-Some-clause-entries
returns-in-Some-clause-entries c =
    let wires = c.self.inside.wires in
    let within : c.in-Some.number < length wires.items = omega (arith, wires.ok.0, c.if-number-len.true, c.len.ensures) in
    let row : c.as_slice.result.now ≡ numbers_at wires.items c.in-Some.number =
    c.as_slice.ensures ∙ row-numbers wires.items c.in-Some.number c.index.result.now within c.index.ensures in
    rw row (c.self.invariant.listed c.in-Some.number)
