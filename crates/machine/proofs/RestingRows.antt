-- Counter groups and storage units at the points of all rows: groups that may have nothing to do stay as they are.
use Rattle.std.specs.List.{list_any}
use Rattle.std.proofs.Math.Bool.{or-false}
use Rattle.std.proofs.lemmas.Bool.Decides.{nat_tests}
use Rattle.std.proofs.lemmas.Grind.{take_at_read}
use Rattle.std.proofs.lemmas.List.{drop_all, take_all}
use Rattle.std.proofs.lemmas.List.Folds.{list_any-append}
use Rattle.std.proofs.Common.{◌≡◌, ◌∙◌, ◌<◌, ◌≤◌, ◌+◌, ◌++◌, refl, sym, ap, arith, append-nil, subst, ℕ, suc, ◌||◌, Bool, true, false, List, [], ◌∷◌, map, length, take, drop, get_or, if◌then◌else◌}
use Rattle.card_code.specs.Rows.{rows}
use Rattle.counters.specs.Counters.{Counter, counter_number, counter_sensed}
use Rattle.counters.specs.declared.controls.Controls.{Controls}
use Rattle.counters.proofs.EarliestRows.{points-stay}
use Rattle.counters.proofs.RowsSensed.{rows-resting, rows-sensed}
use Rattle.hubs.specs.declared.hub.Hub.{Hub}
use Rattle.net.specs.HubSets.{is_bit}
use Rattle.net.specs.RowSets.{after_rows}
use Rattle.net.specs.WholeCycles.{after_points}
use Rattle.net.specs.declared.cycle.Cycle.{Cycle}
use Rattle.net.specs.declared.cycle.Point.{Point}
use Rattle.net.specs.declared.cycle.Point.TheVariants.{Row}
use Rattle.storage_units.specs.OwnHubs.{storage_keeps}
use Rattle.storage_units.specs.Storage.{StorageState, storage_number, storage_sensed}
use Rattle.machine.specs.Fields.{AreInStorageOrder, AreInUnitOrder}
use Rattle.machine.specs.Marked.{marked_changed}
use Rattle.machine.specs.Rest.{HaveNoMore, IsAtRest}
use Rattle.machine.specs.declared.groups.Busy.{Busy}
use Rattle.machine.proofs.UnitOrder.{numbers-kept, storage-kept}

-- a group at rest stays as it is
rests : (cycle : Cycle) (pictures : Point → Hub → Bool) (group : Counter) → IsAtRest group
    → after_rows counter_sensed cycle pictures group ≡ group
rests cycle pictures group rest =
    rows-resting cycle pictures rows group (ap (λ (controls : Controls). controls.plus || controls.minus) rest.controls)

-- all groups sense the rows where those do that may be under a control
pub busy-rows : (busy : Busy) (k : ℕ) (groups : List Counter) (cycle : Cycle) (pictures : Point → Hub → Bool) → HaveNoMore busy k groups
    → marked_changed busy.controlled k (λ group. after_rows counter_sensed cycle pictures group) groups
    ≡ map (λ group. after_rows counter_sensed cycle pictures group) groups
busy-rows busy k [] cycle pictures held = refl
busy-rows busy k (group ∷ groups) cycle pictures held =
    let rest = busy-rows busy (suc k) groups cycle pictures held.1 in
    let here = by (is_bit busy.controlled k) refl in λ i. here i ∷ rest i
  where
    by : (on : Bool) → is_bit busy.controlled k ≡ on
        → (if is_bit busy.controlled k then after_rows counter_sensed cycle pictures group else group) ≡ after_rows counter_sensed cycle pictures group
    by true is = ap (λ b. if b then after_rows counter_sensed cycle pictures group else group) is
    by false is =
        ap (λ b. if b then after_rows counter_sensed cycle pictures group else group) is ∙ sym (rests cycle pictures group (held.0.rest is))

-- and what they may have to do stays the same
pub busy-stay : (busy : Busy) (k : ℕ) (groups : List Counter) (cycle : Cycle) (pictures : Point → Hub → Bool) → HaveNoMore busy k groups
    → HaveNoMore busy k (map (λ group. after_rows counter_sensed cycle pictures group) groups)
busy-stay busy k [] cycle pictures held = held
busy-stay busy k (group ∷ groups) cycle pictures held = (
  record {
    lawful = points-stay cycle pictures (map Row rows) group held.0.lawful;
    rest = λ is. subst IsAtRest (sym (rests cycle pictures group (held.0.rest is))) (held.0.rest is);
    silent = λ is. ap (λ (g : Counter). g.controls.read_out) (rows-sensed cycle pictures rows group) ∙ held.0.silent is;
    untested = λ is. ap (λ (g : Counter). g.controls.test) (rows-sensed cycle pictures rows group) ∙ held.0.untested is;
    empty = λ is. ap (λ (g : Counter). g.carry) (rows-sensed cycle pictures rows group) ∙ held.0.empty is;
  },
  busy-stay busy (suc k) groups cycle pictures held.1,
)

-- each unit of a list after some points is the list after them
pub each-after : {X : Type 0} (sense : X → Cycle → Point → (Hub → Bool) → X) (cycle : Cycle) (pictures : Point → Hub → Bool) (some : List Point)
    (units : List X)
    → map (λ unit. after_points sense cycle pictures some unit) units
    ≡ after_points (λ (all : List X) (c : Cycle) (point : Point) (picture : Hub → Bool). map (λ unit. sense unit c point picture) all) cycle pictures
    some units
each-after sense cycle pictures [] units = same units where
  same : {X : Type 0} (xs : List X) → map (λ x. x) xs ≡ xs
  same [] = refl
  same (x ∷ xs) = ap (λ rest. x ∷ rest) (same xs)
each-after {X} sense cycle pictures (point ∷ others) units =
    both units
    ∙ each-after sense cycle pictures others (map (λ unit. sense unit cycle point (pictures point)) units)
  where
    both : (xs : List X) → map (λ unit. after_points sense cycle pictures others (sense unit cycle point (pictures point))) xs
        ≡ map (λ unit. after_points sense cycle pictures others unit) (map (λ unit. sense unit cycle point (pictures point)) xs)
    both [] = refl
    both (x ∷ xs) = ap (λ rest. after_points sense cycle pictures others (sense x cycle point (pictures point)) ∷ rest) (both xs)

-- groups stay in the order of their units
pub rows-in_order : (old new : List Counter) (cycle : Cycle) (pictures : Point → Hub → Bool)
    → new ≡ map (λ group. after_rows counter_sensed cycle pictures group) old → AreInUnitOrder old → AreInUnitOrder new
rows-in_order old new cycle pictures is ordered =
    ap (λ (gs : List Counter). map counter_number gs) is
    ∙ numbers-kept counter_number (λ group. after_rows counter_sensed cycle pictures group)
    (λ group. ap counter_number (rows-sensed cycle pictures rows group)) old
    ∙ ordered

-- and so do storage units
pub storage-rows : (old new : List StorageState) (cycle : Cycle) (pictures : Point → Hub → Bool)
    → new ≡ map (λ unit. after_rows storage_sensed cycle pictures unit) old → AreInStorageOrder old → AreInStorageOrder new
storage-rows old new cycle pictures is ordered =
    storage-kept (λ unit. after_rows storage_sensed cycle pictures unit) (points-keep (map Row rows)) old new is ordered
  where
    points-keep : (some : List Point) (unit : StorageState)
        → storage_number (after_points storage_sensed cycle pictures some unit) ≡ storage_number unit
    points-keep [] unit = refl
    points-keep (point ∷ others) unit =
        points-keep others (storage_sensed unit cycle point (pictures point))
        ∙ storage_keeps.keeps_number unit cycle point (pictures point)

-- one unit more of a list is asked
pub any-more : {X : Type 0} (test : X → Bool) (xs : List X) (i : ℕ) (x : X) → i < length xs → x ≡ get_or xs i x
    → list_any test (take (i + 1) xs) ≡ (list_any test (take i xs) || test x)
any-more {X} test xs i x inside is =
    ap (list_any test) ((take_at_read xs i x inside).1 ∙ ap (λ (y : X). take i xs ++ y ∷ []) (sym is))
    ∙ list_any-append test (take i xs) (x ∷ []) ∙ ap (λ b. list_any test (take i xs) || b) (or-false (test x))

-- what one unit more adds
pub added-more : (old now new before here after : Bool) → now ≡ (old || before) → new ≡ (now || here) → after ≡ (before || here)
    → new ≡ (old || after)
added-more old now new before here after e f g = grind (arith, nat_tests, e, f, g)

-- all units of a list are changed
pub changed-all : {X : Type 0} (change : X → X) (xs : List X) (i : ℕ) → length xs ≤ i → map change (take i xs) ++ drop i xs ≡ map change xs
changed-all {X} change xs i end =
    ap (λ (ys : List X). map change ys ++ drop i xs) (take_all i xs end) ∙ ap (λ (ys : List X). map change xs ++ ys) (drop_all i xs end)
    ∙ append-nil (map change xs)
