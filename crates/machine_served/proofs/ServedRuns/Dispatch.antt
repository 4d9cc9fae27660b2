-- Where each unit stands among those of a machine, and what becomes of them where one of them senses.
use Rattle.std.proofs.Common.{◌≡◌, ◌∙◌, ap, sym, refl, ℕ, ◌+◌, ◌-◌, ◌<◌, ◌≤◌, List, [], ◌∷◌, ◌++◌, map, length, arith, slice_index_or, slice_set, Bool}
use Rattle.std.proofs.lemmas.List.{get_or-append_right, get_or-map, get_or-set_other, get_or-set_same, get_or_append_left, length-map, map-set, set-append_left, set-append_right}
use Rattle.counters.specs.Counters.{Counter, counter_number}
use Rattle.hubs.specs.declared.hub.Hub.{Hub}
use Rattle.machine.specs.Fields.{IsInUnitOrder}
use Rattle.machine.specs.Machine.{MachineState}
use Rattle.net.specs.declared.cycle.Cycle.{Cycle}
use Rattle.net.specs.declared.cycle.Point.{Point}
use Rattle.machine_served.specs.ServedRuns.Units.{SensesOne}
use Rattle.machine_served.proofs.ServedUnits.Listed.{units_in_order, units_long}
use Rattle.machine_served.specs.ServedUnits.AnyUnit.{AnyUnit, any_sensed, last_units, unit_at, units_of}
use Rattle.machine_served.specs.ServedUnits.AnyUnit.AnyUnit.{ComparingUnit, GroupUnit, SplitsUnit, StationsUnit, StorageUnit}
use Rattle.storage_units.specs.Storage.{StorageState, storage_number}

-- what stands for a unit that there is none of
none : AnyUnit
none = SplitsUnit (record {})

module _ (machine : MachineState) (ordered : IsInUnitOrder machine) where
  abbrev pub first_two : List AnyUnit
  first_two = StationsUnit machine.stations ∷ ComparingUnit machine.comparing ∷ []

  many_groups : length machine.groups ≡ 32
  many_groups = sym (length-map machine.groups counter_number) ∙ ap length ordered.groups

  many_storage : length machine.storage ≡ 4
  many_storage = sym (length-map machine.storage storage_number) ∙ ap length ordered.storage

  groups_long : length (map GroupUnit machine.groups) ≡ 32
  groups_long = length-map machine.groups GroupUnit ∙ many_groups

  storage_long : length (map StorageUnit machine.storage) ≡ 4
  storage_long = length-map machine.storage StorageUnit ∙ many_storage

  storage_on : List AnyUnit
  storage_on = map StorageUnit machine.storage ++ last_units machine

  -- the counter groups are the units 3 to 34
  pub group_at : (unit : ℕ) (d : Counter) → 3 ≤ unit → unit ≤ 34
      → unit_at machine unit ≡ GroupUnit (slice_index_or machine.groups (unit - 3) d)
  unfolding storage_on none
  group_at unit d from to =
      let low : unit - 3 < length machine.groups = omega (arith, from, to, many_groups) in
      let low_too : unit - 3 < length (map GroupUnit machine.groups) = omega (arith, from, to, groups_long) in
      let place : unit - 1 - 2 ≡ unit - 3 = omega (arith, from) in
      get_or-append_right first_two (map GroupUnit machine.groups ++ storage_on) 2 (unit - 1) none refl (omega (arith, from))
      ∙ ap (λ p. slice_index_or (map GroupUnit machine.groups ++ storage_on) p none) place
      ∙ get_or_append_left (map GroupUnit machine.groups) storage_on none (unit - 3) low_too
      ∙ get_or-map GroupUnit machine.groups (unit - 3) d none low

  -- the storage units are the units 35 to 38
  pub storage_at : (unit : ℕ) (d : StorageState) → 35 ≤ unit → unit ≤ 38
      → unit_at machine unit ≡ StorageUnit (slice_index_or machine.storage (unit - 35) d)
  unfolding storage_on none
  storage_at unit d from to =
      let low : unit - 35 < length machine.storage = omega (arith, from, to, many_storage) in
      let low_too : unit - 35 < length (map StorageUnit machine.storage) = omega (arith, from, to, storage_long) in
      let place : unit - 1 - 2 - 32 ≡ unit - 35 = omega (arith, from) in
      get_or-append_right first_two (map GroupUnit machine.groups ++ storage_on) 2 (unit - 1) none refl (omega (arith, from))
      ∙ get_or-append_right (map GroupUnit machine.groups) storage_on 32 (unit - 1 - 2) none groups_long (omega (arith, from))
      ∙ ap (λ p. slice_index_or storage_on p none) place
      ∙ get_or_append_left (map StorageUnit machine.storage) (last_units machine) none (unit - 35) low_too
      ∙ get_or-map StorageUnit machine.storage (unit - 35) d none low

  -- the others are the units from 39 on
  pub last_at : (unit place : ℕ) → unit ≡ 39 + place
      → unit_at machine unit ≡ slice_index_or (last_units machine) place (SplitsUnit (record {}))
  unfolding storage_on none
  last_at unit at is =
      let place : unit - 1 - 2 - 32 - 4 ≡ at = omega (arith, is) in
      get_or-append_right first_two (map GroupUnit machine.groups ++ storage_on) 2 (unit - 1) none refl (omega (arith, is))
      ∙ get_or-append_right (map GroupUnit machine.groups) storage_on 32 (unit - 1 - 2) none groups_long (omega (arith, is))
      ∙ get_or-append_right (map StorageUnit machine.storage) (last_units machine) 4 (unit - 1 - 2 - 32) none storage_long (omega (arith, is))
      ∙ ap (λ p. slice_index_or (last_units machine) p none) place

  -- one unit in a new state
  pub group_set : (unit : ℕ) (new : Counter) → 3 ≤ unit → unit ≤ 34
      → units_of (record machine { groups = slice_set machine.groups (unit - 3) new }) ≡ slice_set (units_of machine) (unit - 1) (GroupUnit new)
  unfolding storage_on
  group_set unit new from to =
      let low_too : unit - 3 < length (map GroupUnit machine.groups) = omega (arith, from, to, groups_long) in
      let place : unit - 3 ≡ unit - 1 - 2 = omega (arith, from) in
      ap (λ (units : List AnyUnit). first_two ++ (units ++ storage_on)) (map-set GroupUnit machine.groups (unit - 3) new)
      ∙ ap (λ (units : List AnyUnit). first_two ++ units)
      (sym (set-append_left (map GroupUnit machine.groups) storage_on (unit - 3) (GroupUnit new) low_too))
      ∙ ap (λ p. first_two ++ slice_set (map GroupUnit machine.groups ++ storage_on) p (GroupUnit new)) place
      ∙ sym (set-append_right first_two (map GroupUnit machine.groups ++ storage_on) 2 (unit - 1) (GroupUnit new) refl (omega (arith, from)))

  pub storage_set : (unit : ℕ) (new : StorageState) → 35 ≤ unit → unit ≤ 38
      → units_of (record machine { storage = slice_set machine.storage (unit - 35) new }) ≡ slice_set (units_of machine) (unit - 1) (StorageUnit new)
  unfolding storage_on
  storage_set unit new from to =
      let low_too : unit - 35 < length (map StorageUnit machine.storage) = omega (arith, from, to, storage_long) in
      let place : unit - 35 ≡ unit - 1 - 2 - 32 = omega (arith, from) in
      ap (λ (units : List AnyUnit). first_two ++ (map GroupUnit machine.groups ++ (units ++ last_units machine)))
      (map-set StorageUnit machine.storage (unit - 35) new)
      ∙ ap (λ (units : List AnyUnit). first_two ++ (map GroupUnit machine.groups ++ units))
      (sym (set-append_left (map StorageUnit machine.storage) (last_units machine) (unit - 35) (StorageUnit new) low_too))
      ∙ ap (λ p. first_two ++ (map GroupUnit machine.groups ++ slice_set storage_on p (StorageUnit new))) place
      ∙ ap (λ (units : List AnyUnit). first_two ++ units)
      (sym (set-append_right (map GroupUnit machine.groups) storage_on 32 (unit - 1 - 2) (StorageUnit new) groups_long (omega (arith, from))))
      ∙ sym (set-append_right first_two (map GroupUnit machine.groups ++ storage_on) 2 (unit - 1) (StorageUnit new) refl (omega (arith, from)))

  -- one of the last units in a new state: the machine is otherwise the same
  pub last_set : (changed : List AnyUnit) (unit place : ℕ) (new : AnyUnit) → unit ≡ 39 + place
      → changed ≡ slice_set (last_units machine) place new
      → first_two ++ (map GroupUnit machine.groups ++ (map StorageUnit machine.storage ++ changed)) ≡ slice_set (units_of machine) (unit - 1) new
  unfolding storage_on
  last_set changed unit at new is same =
      let place : at ≡ unit - 1 - 2 - 32 - 4 = omega (arith, is) in
      ap (λ (units : List AnyUnit). first_two ++ (map GroupUnit machine.groups ++ (map StorageUnit machine.storage ++ units)))
      (same ∙ ap (λ p. slice_set (last_units machine) p new) place)
      ∙ ap (λ (units : List AnyUnit). first_two ++ (map GroupUnit machine.groups ++ units))
      (sym (set-append_right (map StorageUnit machine.storage) (last_units machine) 4 (unit - 1 - 2 - 32) new storage_long (omega (arith, is))))
      ∙ ap (λ (units : List AnyUnit). first_two ++ units)
      (sym (set-append_right (map GroupUnit machine.groups) storage_on 32 (unit - 1 - 2) new groups_long (omega (arith, is))))
      ∙ sym (set-append_right first_two (map GroupUnit machine.groups ++ storage_on) 2 (unit - 1) new refl (omega (arith, is)))

  -- where the units are the same but for one, which sensed, that one senses
  pub one_senses : (new : MachineState) (cycle : Cycle) (point : Point) (picture : Hub → Bool) (unit : ℕ) → 2 ≤ unit → unit ≤ 45
      → units_of new ≡ slice_set (units_of machine) (unit - 1) (any_sensed (unit_at machine unit) cycle point picture)
      → SensesOne cycle point picture unit machine new
  unfolding none
  one_senses new cycle point picture unit from to set =
      let long = units_long machine (units_in_order machine ordered) in
      let low : unit - 1 < length (units_of machine) = omega (arith, from, to, long) in
      record {
        own = ap (λ (units : List AnyUnit). slice_index_or units (unit - 1) none) set
            ∙ get_or-set_same (units_of machine) (unit - 1) (any_sensed (unit_at machine unit) cycle point picture) none low;
        others = λ other apart.
            ap (λ (units : List AnyUnit). slice_index_or units (other - 1) none) set
            ∙ get_or-set_other (units_of machine) (unit - 1) (other - 1) (any_sensed (unit_at machine unit) cycle point picture) none
            (λ same. apart (omega (arith, same, from, apart)));
      }
