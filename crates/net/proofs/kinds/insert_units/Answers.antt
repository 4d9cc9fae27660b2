use Rattle.std.proofs.Common.{◌∙◌, sym}
use Rattle.std.proofs.lemmas.Bool.{false≢true}
use Rattle.hubs.specs.declared.hub.Hub.TheVariants.{SX}
use Rattle.net.proofs.KindExits.{HasUnits-more, KeepsHubs-gains, SX-row, gained}
use Rattle.net.proofs.kinds.insert_units.Goals as goal
use Rattle.net.proofs.kinds.insert_units.Goals.{then-has, else-has}

pub loop-unit-preserved : goal.loop-unit-preserved
loop-unit-preserved c =
    let more = HasUnits-more c.loop-unit.unit c.args.told.now c.loop-unit.exits in
    elim c.if-has.branch [
      | then-has w ↦ rw w.exits-is (
          let keeps = KeepsHubs-gains _ _ _ w.insert_row.ensures in
          record {
            kept = λ hub on. keeps hub (c.loop-unit.invariant.kept hub on);
            units = more _ keeps (λ on column there. gained _ _ _ w.insert_row.ensures (SX c.loop-unit.unit column) (SX-row c.loop-unit.unit column there)) c.loop-unit.invariant.units;
          })
      | else-has w ↦ rw w.exits-is (record {
        kept = c.loop-unit.invariant.kept;
        units = more _ (λ hub on. on) (λ on. absurd (false≢true (sym (sym c.has.ensures ∙ w.if-has.false) ∙ on))) c.loop-unit.invariant.units;
      })
    ]
