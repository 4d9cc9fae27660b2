-- A machine starts between cycles, and each cycle leaves it so.
use Rattle.std.proofs.Common.{◌≡◌, ◌∙◌, sym, ap, refl, ℕ, ◌+◌, ◌<◌, ◌≤◌, Bool, true, false, List, [], ◌∷◌, length, map, get_or, arith, subst, if◌then◌else◌, slice_set}
use Rattle.std.specs.List.{All, range_with_len}
use Rattle.std.proofs.lemmas.List.{length-map, length-set}
use Rattle.std.proofs.lemmas.List.Elements.{All-from_get_or, All-map, All-same}
use Rattle.std.proofs.lemmas.List.FromFn.{get_or-range_with_len, length-map-range_with_len}
use Rattle.card_code.specs.Rows.{passing_place}
use Rattle.card_code.specs.declared.row.Row.TheVariants.{Eleven}
use Rattle.counters.proofs.EarliestRows.{points-stay}
use Rattle.counters.proofs.Staying.{counters-stay}
use Rattle.counters.specs.Counters.{Counter, counter_at_start, counter_number, counter_sensed}
use Rattle.counters.specs.WholeCycles as counters
use Rattle.hubs.specs.SetupsWords.Wiring.{Wiring}
use Rattle.hubs.specs.declared.hub.Hub.{Hub}
use Rattle.hubs.specs.declared.hub.Hub.TheVariants.{PIX}
use Rattle.net.specs.Cycles.{points}
use Rattle.net.specs.WholeCycles.{after_points}
use Rattle.net.specs.declared.cycle.Cycle.{Cycle}
use Rattle.net.specs.declared.cycle.Cycle.TheVariants.{RunIn, Card, Prog, Head}
use Rattle.net.specs.declared.cycle.Point.{Point}
use Rattle.net.specs.declared.cycle.Point.TheVariants.{C, Row, K}
use Rattle.machine.specs.Below.print_unit.Wheels.{emptied, wheel_at_start}
use Rattle.machine.specs.Below.print_unit.ZeroControl.{Wheel}
use Rattle.machine.specs.Below.selectors.Numbered.{tests_to}
use Rattle.machine.specs.Below.selectors.Pilots.{PilotStates, no_pilots, pickups}
use Rattle.machine.specs.Below.selectors.WholeCycles as selectors
use Rattle.machine.specs.Below.storage_units.Storage.{StorageState, columns_in, storage_at_start, storage_number, storage_sensed}
use Rattle.machine.specs.Below.storage_units.WholeCycles as columns
use Rattle.machine.specs.Machine.{MachineState, machine_at_start, group_units, storage_units}
use Rattle.proof_cycles.specs.WholeCycles.Between.{HasAllRows, IsBetween, IsEmpty, IsIdle}
use Rattle.proof_cycles.specs.WholeCycles.Laws.{MachinesStayBetween}
use Rattle.proof_cycles.specs.WholeCycles.WholeCycles.{WholeCycle}
use Rattle.proof_cycles.proofs.WholeCycles.Parts.{map-both}
use Rattle.proof_cycles.proofs.WholeCycles.Wholes.{cycles-whole}

-- what holds of anything holds of each of a list
pub all-of : {X : Type 0} (P : X → Type 0) (xs : List X) → ((x : X) → P x) → All P xs
all-of P xs holds = λ k d less. holds (get_or xs k d)

-- what holds of anything that is made holds of each that is made
pub all-made : {X Y : Type 0} (P : Y → Type 0) (make : X → Y) (xs : List X) → ((x : X) → P (make x)) → All P (map make xs)
all-made P make xs holds = All-map P make xs (all-of (λ x. P (make x)) xs holds)

-- what each change keeps is kept of each of a list
pub all-kept : {X : Type 0} (P : X → Type 0) (change : X → X) → ((x : X) → P x → P (change x)) → (xs : List X) → All P xs
    → All P (map change xs)
all-kept P change keeps xs all = All-map P change xs (λ k d less. keeps (get_or xs k d) (all k d less))

-- the units of the groups are 3 to 34
unit_at : (k : ℕ) → k < 32 → get_or group_units k 0 ≡ 3 + k
unit_at k less = get_or-range_with_len 3 32 k 0 less

group-start : (unit : ℕ) → 3 ≤ unit → unit ≤ 34 → IsIdle (counter_at_start unit)
group-start unit from to = record { lawful = counters-stay.start unit from to; entered = refl; carry = refl; controls = refl }

groups-start : All IsIdle (map counter_at_start group_units)
groups-start =
    All-map IsIdle counter_at_start group_units
    (All-from_get_or (λ unit. IsIdle (counter_at_start unit)) group_units 0
    (λ k less. let is = unit_at k less in group-start (get_or group_units k 0) (omega (arith, is)) (omega (arith, is, less))))

pub starts : (wiring : Wiring) → IsBetween (machine_at_start wiring)
starts wiring = record {
  comparing = refl;
  ordered = refl;
  groups = groups-start;
  numbered = refl;
  storage = all-made HasAllRows storage_at_start storage_units (λ unit. record { held = refl; received = refl });
  transferred = refl;
  picked_up = refl;
  many_wheels = length-map-range_with_len (wheel_at_start wiring) 1 120;
  wheels = all-made IsEmpty (wheel_at_start wiring) (range_with_len 1 120) (λ v. refl);
}

-- an idle group is idle after a cycle
group-kept : (cycle : Cycle) (pictures : Point → Hub → Bool) (group : Counter) → IsIdle group
    → IsIdle (counters.after_cycle cycle pictures group)
group-kept cycle pictures group is = record {
  lawful =
      counters-stay.ended (after_points counter_sensed cycle pictures points group) cycle
      (points-stay cycle pictures points group is.lawful);
  entered = refl;
  carry = refl;
  controls = refl;
}

-- a storage unit has all rows through the points of a cycle
storage-point : (cycle : Cycle) (point : Point) (picture : Hub → Bool) (storage : StorageState) → HasAllRows storage
    → HasAllRows (storage_sensed storage cycle point picture)
storage-point cycle C picture storage is = record { held = is.held; received = refl }
storage-point cycle (Row row) picture storage is = record { held = is.held; received = by storage.reads_in }
  where
    by : (reads_in : Bool) → length (if reads_in then slice_set storage.received (passing_place row) (columns_in picture storage.place) else storage.received) ≡ 12
    by true = length-set storage.received (passing_place row) (columns_in picture storage.place) ∙ is.received
    by false = is.received
storage-point cycle K picture storage is = is

storage-points : (cycle : Cycle) (pictures : Point → Hub → Bool) (list : List Point) (storage : StorageState) → HasAllRows storage
    → HasAllRows (after_points storage_sensed cycle pictures list storage)
storage-points cycle pictures [] storage is = is
storage-points cycle pictures (point ∷ others) storage is =
    storage-points cycle pictures others (storage_sensed storage cycle point (pictures point))
    (storage-point cycle point (pictures point) storage is)

storage-kept : (cycle : Cycle) (pictures : Point → Hub → Bool) (storage : StorageState) → HasAllRows storage
    → HasAllRows (columns.after_cycle cycle pictures storage)
storage-kept cycle pictures storage is =
    let now = after_points storage_sensed cycle pictures points storage in
    let has = storage-points cycle pictures points storage is in
    record { held = by now.reads_in now has; received = has.received }
  where
    by : (reads_in : Bool) (now : StorageState) → HasAllRows now → length (if reads_in then now.received else now.held) ≡ 12
    by true now has = has.received
    by false now has = has.held

-- the pilots stay sixteen
pickups-many : (picture : Hub → Bool) → length (pickups picture) ≡ 16
unfolding tests_to
pickups-many picture = length-map-range_with_len (λ pilot. picture (PIX pilot)) 1 16

-- sixteen pilots that have forgotten their pickups
record HaveForgotten (pilots : PilotStates) : Type 0 where
  transferred : length pilots.transferred ≡ 16
  picked_up : pilots.picked_up ≡ no_pilots

pilots-kept : (cycle : Cycle) (pictures : Point → Hub → Bool) (pilots : PilotStates) → HaveForgotten pilots
    → HaveForgotten (selectors.after_cycle cycle pictures pilots)
pilots-kept RunIn pictures pilots is = record { transferred = pickups-many (pictures (Row Eleven)); picked_up = refl }
pilots-kept Card pictures pilots is = record { transferred = pickups-many (pictures (Row Eleven)); picked_up = refl }
pilots-kept (Prog level ordinal) pictures pilots is = record { transferred = is.transferred; picked_up = is.picked_up }
pilots-kept (Head heading) pictures pilots is = record { transferred = is.transferred; picked_up = is.picked_up }

-- a whole cycle leaves a machine between cycles
pub stays : (wiring : Wiring) (cycle : Cycle) (old new : MachineState)
    → IsBetween old → WholeCycle wiring cycle old new → IsBetween new
stays wiring cycle old new between whole =
    let pictures : Point → Hub → Bool = whole.pictures in
    let pilots : HaveForgotten new.pilots =
    subst HaveForgotten (sym whole.pilots)
    (pilots-kept cycle pictures old.pilots (record { transferred = between.transferred; picked_up = between.picked_up })) in
    record {
      comparing = whole.comparing;
      ordered =
          ap (map counter_number) whole.groups ∙ map-both (counters.after_cycle cycle pictures) counter_number old.groups ∙ between.ordered;
      groups =
          All-same IsIdle new.groups _ whole.groups
          (all-kept IsIdle (counters.after_cycle cycle pictures) (group-kept cycle pictures) old.groups between.groups);
      numbered =
          ap (map storage_number) whole.storage
          ∙ map-both (columns.after_cycle cycle pictures) storage_number old.storage ∙ between.numbered;
      storage =
          All-same HasAllRows new.storage _ whole.storage
          (all-kept HasAllRows (columns.after_cycle cycle pictures) (storage-kept cycle pictures) old.storage between.storage);
      transferred = pilots.transferred;
      picked_up = pilots.picked_up;
      many_wheels =
          ap (λ (ws : List Wheel). length ws) whole.wheels ∙ length-map old.wheels.wheels emptied ∙ between.many_wheels;
      wheels =
          All-same IsEmpty new.wheels.wheels _ whole.wheels
          (all-made IsEmpty emptied old.wheels.wheels (λ wheel. refl));
    }

pub machines-stay : MachinesStayBetween
machines-stay = record {
  start = starts;
  kept = λ wiring cycle old new between run.
      stays wiring cycle old new between (cycles-whole wiring cycle old new between run);
}
