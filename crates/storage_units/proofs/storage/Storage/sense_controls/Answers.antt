use Rattle.std.proofs.Common.{◌∙◌, ◌+◌, ◌-◌, arith}
use Rattle.storage_units.specs.Fields.{state_of}
use Rattle.storage_units.proofs.ColumnSets.{words-blank}
use Rattle.storage_units.proofs.ControlHubs.{controls-sensed}
use Rattle.storage_units.proofs.storage.Storage.sense_controls.Goals as goal

pub returns : goal.returns
returns c cycle picture row =
    let unit = state_of c.self.inside in
    let most = c.self.invariant.1 in
    rw (← c.self.view_is)
    ((λ i.
    record unit { received = words-blank i; reads_in = c.has_bit-self-inside.result; reads_out = c.has_bit-self-inside-2.result })
    ∙ controls-sensed unit cycle picture c.args.row c.has_bit-self-inside.result c.has_bit-self-inside-2.result c.self.invariant.0 most row
    (c.has_bit-self-inside.ensures ∙ c.low_word-told.ensures (c.self.inside.place - 1) (omega (arith, most)))
    (c.has_bit-self-inside-2.ensures ∙ c.low_word-told.ensures (c.self.inside.place + 3) (omega (arith, most))))
