use Rattle.std.proofs.Common.{subst, sym}
use Rattle.hubs.specs.declared.hub.Hub.TheVariants.{FR}
use Rattle.net.specs.HubSets.{HubSet}
use Rattle.net.specs.Kinds.{HasEmitting}
use Rattle.net.specs.declared.cycle.Cycle.TheVariants.{RunIn}
use Rattle.net.proofs.KindExits.{FR-row, HasEmitting-first, gained}
use Rattle.net.proofs.kinds.emitting_in_run_in.Goals as goal

pub returns : goal.returns
returns c wiring =
    subst (λ (set : HubSet). HasEmitting wiring RunIn set) (sym c.exits.view_is)
    (HasEmitting-first wiring _ (λ column there. gained _ _ _ c.insert_row.ensures (FR column) (FR-row column there)))
