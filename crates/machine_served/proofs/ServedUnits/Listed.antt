-- The units of a machine, listed, emit, close, sense and end as the machine does; and each stands at its number.
use Rattle.std.proofs.Common.{◌≡◌, ◌∙◌, ap, sym, refl, ℕ, suc, ◌+◌, ◌-◌, ◌<◌, ◌||◌, Bool, true, false, inl, inr, List, [], ◌∷◌, ◌++◌, map, length, arith, slice_index_or}
use Rattle.std.specs.List.{list_any}
use Rattle.std.proofs.lemmas.Bool.{false≢true, or_cases}
use Rattle.std.proofs.lemmas.List.{ext_get_or, get_or-map, length-map}
use Rattle.std.proofs.lemmas.List.Folds.{list_any_at}
use Rattle.std.proofs.lemmas.List.FromFn.{get_or-map-range_with_len, get_or-range_with_len, length-map-range_with_len, length-range_with_len}
use Rattle.counters.specs.Counters.{Counter, counter_ended, counter_number, counter_sensed}
use Rattle.hubs.specs.declared.hub.Hub.{Hub}
use Rattle.machine.proofs.UnitOrder.{numbers-kept}
use Rattle.machine.specs.Fields.{IsInUnitOrder}
use Rattle.machine.specs.Machine.{MachineState, closes, emits, ended, group_units, sensed}
use Rattle.net.specs.declared.cycle.Cycle.{Cycle}
use Rattle.net.specs.declared.cycle.Point.{Point}
use Rattle.machine_served.proofs.ServedWords.SomeUnit.{some_unit-found, some_unit-holds}
use Rattle.machine_served.specs.ServedWords.Units.{IsUnit, all_close, all_emit, some_unit}
use Rattle.machine_served.proofs.ServedUnits.AnyUnitKeeps.{any-ends_with_number, any-keeps_number}
use Rattle.machine_served.specs.ServedUnits.AnyUnit.{AnyUnit, AreInOrder, any_closes, any_emits, any_ended, any_kind, any_number, any_sensed, last_units, unit_at, unit_numbers, units_of}
use Rattle.machine_served.specs.ServedUnits.AnyUnit.AnyUnit.{CarriageUnit, ComparingUnit, EmittersUnit, GroupUnit, IndicationUnit, PilotsUnit, ProgramUnit, SplitsUnit, StationsUnit, StorageUnit, WheelsUnit}
use Rattle.storage_units.specs.Storage.{StorageState, storage_ended, storage_number, storage_sensed}

-- what changes units of one type changes them in a list
changed-map : {A : Type 0} (made : A → AnyUnit) (one : A → A) (change : AnyUnit → AnyUnit) → ((a : A) → change (made a) ≡ made (one a))
    → (units : List A) (others : List AnyUnit)
    → map change (map made units ++ others) ≡ map made (map one units) ++ map change others
changed-map made one change same [] others = refl
changed-map made one change same (unit ∷ units) others =
    let rest = changed-map made one change same units others in
    λ i. same unit i ∷ rest i

-- the machine's units, each with a change
changed-units : (machine : MachineState) (change : AnyUnit → AnyUnit) (group : Counter → Counter) (storage : StorageState → StorageState)
    → ((state : Counter) → change (GroupUnit state) ≡ GroupUnit (group state))
    → ((state : StorageState) → change (StorageUnit state) ≡ StorageUnit (storage state))
    → (others : List AnyUnit)
    → map change (map GroupUnit machine.groups ++ (map StorageUnit machine.storage ++ others))
    ≡ map GroupUnit (map group machine.groups) ++ (map StorageUnit (map storage machine.storage) ++ map change others)
changed-units machine change group storage groups storages others =
    changed-map GroupUnit group change groups machine.groups (map StorageUnit machine.storage ++ others)
    ∙ ap (λ (units : List AnyUnit). map GroupUnit (map group machine.groups) ++ units)
    (changed-map StorageUnit storage change storages machine.storage others)

-- sensing, and ending, unit by unit
pub units_sensed : (machine : MachineState) (cycle : Cycle) (point : Point) (picture : Hub → Bool)
    → units_of (sensed machine cycle point picture) ≡ map (λ unit. any_sensed unit cycle point picture) (units_of machine)
units_sensed machine cycle point picture =
    ap
    (λ (rest : List AnyUnit).
    any_sensed (StationsUnit machine.stations) cycle point picture
    ∷ any_sensed (ComparingUnit machine.comparing) cycle point picture
    ∷ rest)
    (sym (changed-units machine (λ unit. any_sensed unit cycle point picture)
    (λ group. counter_sensed group cycle point picture) (λ storage. storage_sensed storage cycle point picture)
    (λ state. refl) (λ state. refl) (last_units machine)))

pub units_ended : (machine : MachineState) (cycle : Cycle)
    → units_of (ended machine cycle) ≡ map (λ unit. any_ended unit cycle) (units_of machine)
units_ended machine cycle =
    ap
    (λ (rest : List AnyUnit).
    any_ended (StationsUnit machine.stations) cycle ∷ any_ended (ComparingUnit machine.comparing) cycle ∷ rest)
    (sym (changed-units machine (λ unit. any_ended unit cycle)
    (λ group. counter_ended group cycle) (λ storage. storage_ended storage cycle)
    (λ state. refl) (λ state. refl) (last_units machine)))

-- a machine stays in order
pub sensed-in_order : (machine : MachineState) (cycle : Cycle) (point : Point) (picture : Hub → Bool)
    → AreInOrder machine → AreInOrder (sensed machine cycle point picture)
sensed-in_order machine cycle point picture ordered =
    ap (map any_number) (units_sensed machine cycle point picture)
    ∙ numbers-kept any_number (λ unit. any_sensed unit cycle point picture)
    (λ unit. any-keeps_number unit cycle point picture) (units_of machine)
    ∙ ordered

pub ended-in_order : (machine : MachineState) (cycle : Cycle) → AreInOrder machine → AreInOrder (ended machine cycle)
ended-in_order machine cycle ordered =
    ap (map any_number) (units_ended machine cycle)
    ∙ numbers-kept any_number (λ unit. any_ended unit cycle) (λ unit. any-ends_with_number unit cycle) (units_of machine)
    ∙ ordered

-- the units of a machine whose groups and storage units stand in order all do
pub units_in_order : (machine : MachineState) → IsInUnitOrder machine → AreInOrder machine
units_in_order machine ordered =
    ap (λ (numbers : List ℕ). 1 ∷ 2 ∷ numbers)
    (listed GroupUnit counter_number (λ group. refl) machine.groups (map StorageUnit machine.storage ++ last_units machine)
    ∙ ap (λ (numbers : List ℕ). numbers ++ map any_number (map StorageUnit machine.storage ++ last_units machine)) ordered.groups
    ∙ ap (λ (numbers : List ℕ). group_units ++ numbers)
    (listed StorageUnit storage_number (λ storage. refl) machine.storage (last_units machine)
    ∙ ap (λ (numbers : List ℕ). numbers ++ map any_number (last_units machine)) ordered.storage))
  where
    listed : {A : Type 0} (made : A → AnyUnit) (number : A → ℕ) → ((a : A) → any_number (made a) ≡ number a)
        → (units : List A) (others : List AnyUnit)
        → map any_number (map made units ++ others) ≡ map number units ++ map any_number others
    listed made number same [] others = refl
    listed made number same (unit ∷ units) others =
        let rest = listed made number same units others in
        λ i. same unit i ∷ rest i

-- a machine in order has 45 units
pub units_long : (machine : MachineState) → AreInOrder machine → length (units_of machine) ≡ 45
units_long machine ordered =
    sym (length-map (units_of machine) any_number) ∙ ap length ordered ∙ length-range_with_len 1 45

place_low : (machine : MachineState) → AreInOrder machine → (unit : ℕ) → IsUnit 45 unit → unit - 1 < length (units_of machine)
place_low machine ordered unit is = omega (arith, units_long machine ordered, is.0, is.1)

-- each unit stands at its number
pub unit_at-number : (machine : MachineState) → AreInOrder machine → (unit : ℕ) → IsUnit 45 unit
    → any_number (unit_at machine unit) ≡ unit
unit_at-number machine ordered unit is =
    let low = place_low machine ordered unit is in
    let number : 1 + (unit - 1) ≡ unit = omega (arith, is.0) in
    sym (get_or-map any_number (units_of machine) (unit - 1) (SplitsUnit (record {})) 0 low)
    ∙ ap (λ (numbers : List ℕ). slice_index_or numbers (unit - 1) 0) ordered
    ∙ get_or-range_with_len 1 45 (unit - 1) 0 (omega (arith, is.0, is.1))
    ∙ number

pub unit_at-sensed : (machine : MachineState) (cycle : Cycle) (point : Point) (picture : Hub → Bool) → AreInOrder machine
    → (unit : ℕ) → IsUnit 45 unit
    → unit_at (sensed machine cycle point picture) unit ≡ any_sensed (unit_at machine unit) cycle point picture
unit_at-sensed machine cycle point picture ordered unit is =
    ap (λ (units : List AnyUnit). slice_index_or units (unit - 1) (SplitsUnit (record {})))
    (units_sensed machine cycle point picture)
    ∙ get_or-map (λ one. any_sensed one cycle point picture) (units_of machine) (unit - 1) (SplitsUnit (record {}))
    (SplitsUnit (record {})) (place_low machine ordered unit is)

-- the units by their numbers are the units
pub units_by_number : (machine : MachineState) → AreInOrder machine → map (unit_at machine) unit_numbers ≡ units_of machine
units_by_number machine ordered =
    let long = units_long machine ordered in
    let count = length-map-range_with_len (unit_at machine) 1 45 in
    ext_get_or (SplitsUnit (record {})) (map (unit_at machine) unit_numbers) (units_of machine) (count ∙ sym long)
    (λ i low.
    get_or-map-range_with_len (unit_at machine) 1 45 i (i + 1) (SplitsUnit (record {})) (omega (arith, low, count))
    (omega arith)
    ∙ at_place i)
  where
    at_place : (i : ℕ) → unit_at machine (i + 1) ≡ slice_index_or (units_of machine) i (SplitsUnit (record {}))
    at_place i =
        let place : i + 1 - 1 ≡ i = omega arith in
        ap (λ (p : ℕ). slice_index_or (units_of machine) p (SplitsUnit (record {}))) place

-- what is the same for each unit is the same for all in their order
pub same_by_number : (one other : ℕ → AnyUnit) → ((unit : ℕ) → IsUnit 45 unit → one unit ≡ other unit)
    → map one unit_numbers ≡ map other unit_numbers
same_by_number one other same =
    let first = length-map-range_with_len one 1 45 in
    let second = length-map-range_with_len other 1 45 in
    ext_get_or (SplitsUnit (record {})) (map one unit_numbers) (map other unit_numbers) (first ∙ sym second)
    (λ i low.
    let near : i < 45 = omega (arith, low, first) in
    get_or-map-range_with_len one 1 45 i (i + 1) (SplitsUnit (record {})) near (omega arith)
    ∙ same (i + 1) (omega arith, omega (arith, near))
    ∙ sym (get_or-map-range_with_len other 1 45 i (i + 1) (SplitsUnit (record {})) near (omega arith)))

-- a unit of a list that passes a test
at_some : (test : AnyUnit → Bool) (units : List AnyUnit) (other : AnyUnit) → list_any test units ≡ true
    → (k : ℕ) × (k < length units) × (test (slice_index_or units k other) ≡ true)
at_some test [] other on = absurd (false≢true on)
at_some test (unit ∷ units) other on = elim (or_cases (test unit) (list_any test units) on) [
  | inl here ↦ (0, omega arith, here)
  | inr later ↦
      let found = at_some test units other later in
      (suc found.0, omega (arith, found.1), found.2)
]

-- some unit of a list passes a test exactly where some unit does by its number
some_listed : (test : AnyUnit → Bool) (units : List AnyUnit) (other : AnyUnit)
    → some_unit (λ unit. test (slice_index_or units (unit - 1) other)) (length units) ≡ list_any test units
some_listed test units other = by (some_unit numbered (length units)) (list_any test units) forth back where
  numbered : ℕ → Bool
  numbered unit = test (slice_index_or units (unit - 1) other)

  forth : some_unit numbered (length units) ≡ true → list_any test units ≡ true
  forth on =
      let found = some_unit-found numbered (length units) on in
      list_any_at test units (found.unit - 1) other (omega (arith, found.is_unit.0, found.is_unit.1)) found.passes

  back : list_any test units ≡ true → some_unit numbered (length units) ≡ true
  back on =
      let found = at_some test units other on in
      let place : found.0 + 1 - 1 ≡ found.0 = omega arith in
      some_unit-holds numbered (length units) (found.0 + 1) (omega arith, omega (arith, found.1))
      (ap (λ (k : ℕ). test (slice_index_or units k other)) place ∙ found.2)

  by : (one two : Bool) → (one ≡ true → two ≡ true) → (two ≡ true → one ≡ true) → one ≡ two
  by true two to from = sym (to refl)
  by false true to from = from refl
  by false false to from = refl

tested-map : {A : Type 0} (made : A → AnyUnit) (test : AnyUnit → Bool) (units : List A) (others : List AnyUnit)
    → list_any test (map made units ++ others) ≡ (list_any (λ unit. test (made unit)) units || list_any test others)
tested-map made test [] others = refl
tested-map made test (unit ∷ units) others =
    ap (λ (rest : Bool). test (made unit) || rest) (tested-map made test units others)
    ∙ joined (test (made unit)) (list_any (λ one. test (made one)) units) (list_any test others)
  where
    joined : (a b c : Bool) → (a || (b || c)) ≡ ((a || b) || c)
    joined true b c = refl
    joined false b c = refl

-- eleven answers, joined one by one
joined-all : (a b c d e f g h i j k : Bool)
    → (a || (b || (c || (d || (e || (f || (g || (h || (i || (j || (k || false)))))))))))
    ≡ (a || b || c || d || e || f || g || h || i || j || k)
joined-all true b c d e f g h i j k = refl
joined-all false true c d e f g h i j k = refl
joined-all false false true d e f g h i j k = refl
joined-all false false false true e f g h i j k = refl
joined-all false false false false true f g h i j k = refl
joined-all false false false false false true g h i j k = refl
joined-all false false false false false false true h i j k = refl
joined-all false false false false false false false true i j k = refl
joined-all false false false false false false false false true j k = refl
joined-all false false false false false false false false false true k = refl
joined-all false false false false false false false false false false true = refl
joined-all false false false false false false false false false false false = refl

-- some unit of the machine passes a test, told part by part
tested-units : (machine : MachineState) (test : AnyUnit → Bool)
    → list_any test (units_of machine)
    ≡ (test (StationsUnit machine.stations)
    || test (ComparingUnit machine.comparing)
    || list_any (λ group. test (GroupUnit group)) machine.groups
    || list_any (λ storage. test (StorageUnit storage)) machine.storage
    || test (PilotsUnit machine.pilots)
    || test (IndicationUnit machine.indicate)
    || test (SplitsUnit machine.splits)
    || test (EmittersUnit machine.emitters)
    || test (WheelsUnit machine.wheels)
    || test (CarriageUnit machine.carriage)
    || test (ProgramUnit machine.program))
tested-units machine test =
    ap (λ (rest : Bool). test (StationsUnit machine.stations) || (test (ComparingUnit machine.comparing) || rest))
    (tested-map GroupUnit test machine.groups (map StorageUnit machine.storage ++ last_units machine)
    ∙ ap (λ (rest : Bool). list_any (λ group. test (GroupUnit group)) machine.groups || rest)
    (tested-map StorageUnit test machine.storage (last_units machine)))
    ∙ joined-all (test (StationsUnit machine.stations)) (test (ComparingUnit machine.comparing))
    (list_any (λ group. test (GroupUnit group)) machine.groups)
    (list_any (λ storage. test (StorageUnit storage)) machine.storage) (test (PilotsUnit machine.pilots))
    (test (IndicationUnit machine.indicate)) (test (SplitsUnit machine.splits)) (test (EmittersUnit machine.emitters))
    (test (WheelsUnit machine.wheels)) (test (CarriageUnit machine.carriage)) (test (ProgramUnit machine.program))

by_number : (machine : MachineState) → AreInOrder machine → (test : AnyUnit → Bool)
    → some_unit (λ unit. test (unit_at machine unit)) 45 ≡ list_any test (units_of machine)
by_number machine ordered test =
    ap (some_unit (λ unit. test (unit_at machine unit))) (sym (units_long machine ordered))
    ∙ some_listed test (units_of machine) (SplitsUnit (record {}))

-- the units emit, and close, what the machine does
pub units_emit : (machine : MachineState) → AreInOrder machine → (cycle : Cycle) (point : Point) (hub : Hub)
    → all_emit any_kind 45 (unit_at machine) cycle point hub ≡ emits machine cycle point hub
units_emit machine ordered cycle point hub =
    by_number machine ordered (λ unit. any_emits unit cycle point hub)
    ∙ tested-units machine (λ unit. any_emits unit cycle point hub)

pub units_close : (machine : MachineState) → AreInOrder machine → (cycle : Cycle) (point : Point) (hub : Hub)
    → all_close any_kind 45 (unit_at machine) cycle point hub ≡ closes machine cycle point hub
units_close machine ordered cycle point hub =
    by_number machine ordered (λ unit. any_closes unit cycle point hub)
    ∙ tested-units machine (λ unit. any_closes unit cycle point hub)
