use Rattle.std.proofs.Common.{◌≡◌, Bool, List, [], ◌∷◌, map, ap, ◌∙◌, refl, sym}
use Rattle.hubs.specs.declared.hub.Hub.{Hub}
use Rattle.net.specs.HubSets.{has_hub}
use Rattle.net.specs.declared.cycle.Cycle.{Cycle}
use Rattle.net.specs.declared.cycle.Point.{Point}
use Rattle.net.specs.declared.cycle.Point.TheVariants.{K}
use Rattle.storage_units.specs.Storage.{StorageState, storage_sensed}
use Rattle.machine.proofs.storage_rows.sense_storage.Goals as goal

-- at the closing point none changes
unchanged : (units : List StorageState) (cycle : Cycle) (picture : Hub → Bool)
    → units ≡ map (λ unit. storage_sensed unit cycle K picture) units
unchanged [] cycle picture = refl
unchanged (unit ∷ units) cycle picture = ap (λ (others : List StorageState). unit ∷ others) (unchanged units cycle picture)

pub returns-in-K : goal.returns-in-K
returns-in-K c =
    unchanged c.args.storage.now c.args.cycle (has_hub c.args.picture.now)
    ∙ ap (λ (p : Point). map (λ unit. storage_sensed unit c.args.cycle p (has_hub c.args.picture.now)) c.args.storage.now)
    (sym c.in-K.is)

pub returns-in-C : goal.returns-in-C
returns-in-C c = rw c.in-C.is (c.control_storage.ensures c.args.cycle (has_hub c.args.picture.now) c.row.ensures.hubs)
