use Rattle.std.proofs.Common.{◌∙◌, sym}
use Rattle.std.proofs.lemmas.Bool.{false≢true}
use Rattle.hubs.specs.Hubs.{group_of}
use Rattle.hubs.specs.declared.hub.Hub.TheVariants.{GX}
use Rattle.net.proofs.KindExits.{GX-row, HasGroups-more, KeepsHubs-gains, gained}
use Rattle.net.proofs.kinds.insert_groups.Goals as goal
use Rattle.net.proofs.kinds.insert_groups.Goals.{then-has, else-has}

pub loop-number-preserved : goal.loop-number-preserved
loop-number-preserved c =
    let more = HasGroups-more c.args.width c.loop-number.number c.args.told.now c.loop-number.exits in
    elim c.if-has.branch [
      | then-has w ↦ rw w.exits-is (
          let keeps = KeepsHubs-gains _ _ _ w.insert_row.ensures in
          record {
            kept = λ hub on. keeps hub (c.loop-number.invariant.kept hub on);
            groups =
                more _ keeps
                (λ on position there.
                gained _ _ _ w.insert_row.ensures (GX (group_of c.args.width c.loop-number.number) position)
                (GX-row c.args.width c.loop-number.number position there))
                c.loop-number.invariant.groups;
          })
      | else-has w ↦ rw w.exits-is (record {
        kept = c.loop-number.invariant.kept;
        groups = more _ (λ hub on. on) (λ on. absurd (false≢true (sym (sym c.has.ensures ∙ w.if-has.false) ∙ on))) c.loop-number.invariant.groups;
      })
    ]
