-- Counter groups and storage units stay in their order.
use Rattle.std.proofs.Common.{◌≡◌, ℕ, Bool, List, [], ◌∷◌, map, refl, ap, ◌∙◌}
use Rattle.counters.specs.Counters.{Counter, counter_number, counter_sensed, counter_ended}
use Rattle.counters.specs.OwnHubs.{counters_keep}
use Rattle.hubs.specs.declared.hub.Hub.{Hub}
use Rattle.net.specs.declared.cycle.Cycle.{Cycle}
use Rattle.net.specs.declared.cycle.Point.{Point}
use Rattle.storage_units.specs.OwnHubs.{storage_keeps}
use Rattle.storage_units.specs.Storage.{StorageState, storage_ended, storage_number, storage_sensed}
use Rattle.machine.specs.Fields.{AreInStorageOrder, AreInUnitOrder}

-- what keeps each number keeps them all
pub numbers-kept : {X : Type 0} (number : X → ℕ) (change : X → X) → ((unit : X) → number (change unit) ≡ number unit)
    → (units : List X) → map number (map change units) ≡ map number units
numbers-kept number change keeps [] = refl
numbers-kept number change keeps (unit ∷ units) =
    ap (λ (n : ℕ). n ∷ map number (map change units)) (keeps unit)
    ∙ ap (λ (ns : List ℕ). number unit ∷ ns) (numbers-kept number change keeps units)

pub sensed-in_order : (old new : List Counter) (cycle : Cycle) (point : Point) (picture : Hub → Bool)
    → new ≡ map (λ group. counter_sensed group cycle point picture) old → AreInUnitOrder old → AreInUnitOrder new
sensed-in_order old new cycle point picture is ordered =
    ap (λ (gs : List Counter). map counter_number gs) is
    ∙ numbers-kept counter_number (λ group. counter_sensed group cycle point picture)
    (λ group. counters_keep.keeps_number group cycle point picture) old
    ∙ ordered

pub ended-in_order : (old new : List Counter) (cycle : Cycle)
    → new ≡ map (λ group. counter_ended group cycle) old → AreInUnitOrder old → AreInUnitOrder new
ended-in_order old new cycle is ordered =
    ap (λ (gs : List Counter). map counter_number gs) is
    ∙ numbers-kept counter_number (λ group. counter_ended group cycle) (λ group. refl) old ∙ ordered

-- what changes each storage unit and keeps its number keeps the order
pub storage-kept : (change : StorageState → StorageState) → ((unit : StorageState) → storage_number (change unit) ≡ storage_number unit)
    → (old new : List StorageState) → new ≡ map change old → AreInStorageOrder old → AreInStorageOrder new
storage-kept change keeps old new is ordered =
    ap (λ (units : List StorageState). map storage_number units) is ∙ numbers-kept storage_number change keeps old ∙ ordered

pub storage-sensed : (old new : List StorageState) (cycle : Cycle) (point : Point) (picture : Hub → Bool)
    → new ≡ map (λ unit. storage_sensed unit cycle point picture) old → AreInStorageOrder old → AreInStorageOrder new
storage-sensed old new cycle point picture is ordered =
    storage-kept (λ unit. storage_sensed unit cycle point picture) (λ unit. storage_keeps.keeps_number unit cycle point picture) old new is
    ordered

pub storage-ended : (old new : List StorageState) (cycle : Cycle)
    → new ≡ map (λ unit. storage_ended unit cycle) old → AreInStorageOrder old → AreInStorageOrder new
storage-ended old new cycle is ordered =
    storage-kept (λ unit. storage_ended unit cycle) (λ unit. refl) old new is ordered
