use Rattle.hubs.specs.declared.hub.Hub.TheVariants.{FR, SR, EM}
use Rattle.net.proofs.KindExits.{FR-row, HasUntold-later, KeepsHubs-gains, SR-row, gained}
use Rattle.net.proofs.kinds.untold_exits.Goals as goal

pub returns-then-kind-gt0 : goal.returns-then-kind-gt0
returns-then-kind-gt0 c cycle is =
    HasUntold-later cycle c.args.kind _ is c.if-kind-gt0.true (c.emitter_exits-exits.ensures cycle is)

pub returns : goal.returns
returns c cycle is =
    let keeps = KeepsHubs-gains _ _ _ c.insert_row.ensures in
    let keeps_too = KeepsHubs-gains _ _ _ c.insert_row-2.ensures in
    record {
      first = λ passes column there. keeps_too (FR column) (gained _ _ _ c.insert_row.ensures (FR column) (FR-row column there));
      second = λ passes column there. gained _ _ _ c.insert_row-2.ensures (SR column) (SR-row column there);
      emitter = λ emitter row own there. keeps_too (EM emitter row) (keeps (EM emitter row) (c.emitter_exits-exits.ensures cycle is emitter row own there));
    }
