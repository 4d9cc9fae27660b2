-- A machine in which one unit has sensed, by the type of the unit.
use Rattle.std.proofs.Common.{◌≡◌, ◌≢◌, ◌∙◌, ap, sym, refl, ℕ, ◌-◌, ◌≤◌, Bool, List, arith, slice_index_or, slice_set, map}
use Rattle.std.proofs.lemmas.List.{map-set, set-get_or}
use Rattle.carriage.specs.Carriage.{CarriageState, carriage_sensed}
use Rattle.counters.specs.Counters.{Counter, counter_number, counter_sensed}
use Rattle.counters.specs.OwnHubs.{counters_keep}
use Rattle.hubs.specs.declared.hub.Hub.{Hub}
use Rattle.machine.specs.Fields.{IsInUnitOrder}
use Rattle.machine.specs.Machine.{MachineState}
use Rattle.net.specs.declared.cycle.Cycle.{Cycle}
use Rattle.net.specs.declared.cycle.Point.{Point}
use Rattle.print_unit.specs.Wheels.{WheelsState, wheels_sensed}
use Rattle.program_unit.specs.Program.{ProgramState, program_sensed}
use Rattle.selectors.specs.Pilots.{PilotStates, pilots_sensed}
use Rattle.machine_served.proofs.ServedRuns.Dispatch.{group_at, group_set, last_at, last_set, one_senses, storage_at, storage_set}
use Rattle.machine_served.proofs.ServedRuns.LastUnits.{senses_none}
use Rattle.machine_served.specs.ServedRuns.Units.{SensesOne}
use Rattle.machine_served.specs.ServedUnits.AnyUnit.{AnyUnit, any_sensed, last_units, unit_at, units_of}
use Rattle.machine_served.specs.ServedUnits.AnyUnit.AnyUnit.{GroupUnit, StorageUnit}
use Rattle.stations.specs.Comparing.{Compared, comparing_sensed}
use Rattle.storage_units.specs.OwnHubs.{storage_keeps}
use Rattle.storage_units.specs.Storage.{StorageState, storage_number, storage_sensed}

-- one unit in a new state of the same number leaves the numbers
numbers-set : {X : Type 0} (number : X → ℕ) (units : List X) (place : ℕ) (old new : X) → old ≡ slice_index_or units place old
    → number new ≡ number old → map number (slice_set units place new) ≡ map number units
numbers-set number units place old new is same =
    map-set number units place new
    ∙ ap (slice_set (map number units) place) (same ∙ ap number is)
    ∙ sym (map-set number units place (slice_index_or units place old))
    ∙ ap (map number) (set-get_or units place old)

module _ (machine : MachineState) (ordered : IsInUnitOrder machine) (cycle : Cycle) (point : Point) (picture : Hub → Bool) (unit : ℕ) where
  senses : AnyUnit → AnyUnit
  senses one = any_sensed one cycle point picture

  -- the unit senses nothing
  stays : any_sensed (unit_at machine unit) cycle point picture ≡ unit_at machine unit → SensesOne cycle point picture unit machine machine
  stays same = record { own = sym same; others = λ other apart. refl }

  pub stations_sense : 1 ≤ unit → unit ≤ 1 → SensesOne cycle point picture unit machine machine
  stations_sense from to =
      let is : unit ≡ 1 = omega (arith, from, to) in
      stays (ap (λ u. any_sensed (unit_at machine u) cycle point picture) is ∙ ap (unit_at machine) (sym is))

  pub nothing_senses : 39 ≤ unit → unit ≤ 45 → unit ≢ 39 → unit ≢ 43 → unit ≢ 44 → unit ≢ 45
      → SensesOne cycle point picture unit machine machine
  nothing_senses from to not39 not43 not44 not45 =
      stays (senses_none machine ordered unit cycle point picture from to not39 not43 not44 not45)

  pub comparing_senses : (new : Compared) → unit ≡ 2 → new ≡ comparing_sensed machine.comparing cycle point picture
      → SensesOne cycle point picture unit machine (record machine { comparing = new })
  comparing_senses new is same =
      one_senses machine ordered (record machine { comparing = new }) cycle point picture unit (omega (arith, is)) (omega (arith, is))
      (ap (λ (state : Compared). units_of (record machine { comparing = state })) same
      ∙ ap (λ u. slice_set (units_of machine) (u - 1) (any_sensed (unit_at machine u) cycle point picture)) (sym is))

  group_sets : (old new : Counter) → 3 ≤ unit → unit ≤ 34 → old ≡ slice_index_or machine.groups (unit - 3) old
      → new ≡ counter_sensed old cycle point picture
      → units_of (record machine { groups = slice_set machine.groups (unit - 3) new })
      ≡ slice_set (units_of machine) (unit - 1) (any_sensed (unit_at machine unit) cycle point picture)
  group_sets old new from to is same =
      group_set machine ordered unit new from to
      ∙ ap (slice_set (units_of machine) (unit - 1))
      (ap GroupUnit same
      ∙ ap (λ u. any_sensed u cycle point picture) (sym (group_at machine ordered unit old from to ∙ ap GroupUnit (sym is))))

  pub group_senses : (old new : Counter) → 3 ≤ unit → unit ≤ 34 → old ≡ slice_index_or machine.groups (unit - 3) old
      → new ≡ counter_sensed old cycle point picture
      → SensesOne cycle point picture unit machine (record machine { groups = slice_set machine.groups (unit - 3) new })
  group_senses old new from to is same =
      one_senses machine ordered (record machine { groups = slice_set machine.groups (unit - 3) new }) cycle point picture unit
      (omega (arith, from)) (omega (arith, to)) (group_sets old new from to is same)

  pub group-ordered : (old new : Counter) → old ≡ slice_index_or machine.groups (unit - 3) old
      → new ≡ counter_sensed old cycle point picture
      → IsInUnitOrder (record machine { groups = slice_set machine.groups (unit - 3) new })
  group-ordered old new is same = record {
    storage = ordered.storage;
    groups = numbers-set counter_number machine.groups (unit - 3) old new is
        (ap counter_number same ∙ counters_keep.keeps_number old cycle point picture) ∙ ordered.groups;
  }

  storage_sets : (old new : StorageState) → 35 ≤ unit → unit ≤ 38 → old ≡ slice_index_or machine.storage (unit - 35) old
      → new ≡ storage_sensed old cycle point picture
      → units_of (record machine { storage = slice_set machine.storage (unit - 35) new })
      ≡ slice_set (units_of machine) (unit - 1) (any_sensed (unit_at machine unit) cycle point picture)
  storage_sets old new from to is same =
      storage_set machine ordered unit new from to
      ∙ ap (slice_set (units_of machine) (unit - 1))
      (ap StorageUnit same
      ∙ ap (λ u. any_sensed u cycle point picture) (sym (storage_at machine ordered unit old from to ∙ ap StorageUnit (sym is))))

  pub storage_senses : (old new : StorageState) → 35 ≤ unit → unit ≤ 38 → old ≡ slice_index_or machine.storage (unit - 35) old
      → new ≡ storage_sensed old cycle point picture
      → SensesOne cycle point picture unit machine (record machine { storage = slice_set machine.storage (unit - 35) new })
  storage_senses old new from to is same =
      one_senses machine ordered (record machine { storage = slice_set machine.storage (unit - 35) new }) cycle point picture unit
      (omega (arith, from)) (omega (arith, to)) (storage_sets old new from to is same)

  pub storage-ordered : (old new : StorageState) → old ≡ slice_index_or machine.storage (unit - 35) old
      → new ≡ storage_sensed old cycle point picture
      → IsInUnitOrder (record machine { storage = slice_set machine.storage (unit - 35) new })
  storage-ordered old new is same = record {
    groups = ordered.groups;
    storage = numbers-set storage_number machine.storage (unit - 35) old new is
        (ap storage_number same ∙ storage_keeps.keeps_number old cycle point picture) ∙ ordered.storage;
  }

  pub pilots_sense : (new : PilotStates) → unit ≡ 39 → new ≡ pilots_sensed machine.pilots cycle point picture
      → SensesOne cycle point picture unit machine (record machine { pilots = new })
  pilots_sense new is same =
      one_senses machine ordered (record machine { pilots = new }) cycle point picture unit (omega (arith, is)) (omega (arith, is))
      (last_set machine ordered (last_units (record machine { pilots = new })) unit 0 (any_sensed (unit_at machine unit) cycle point picture) is
      (ap (λ (state : PilotStates). last_units (record machine { pilots = state })) same
      ∙ ap (λ u. slice_set (last_units machine) 0 (any_sensed u cycle point picture)) (sym (last_at machine ordered unit 0 is))))

  pub wheels_sense : (new : WheelsState) → unit ≡ 43 → new ≡ wheels_sensed machine.wheels cycle point picture
      → SensesOne cycle point picture unit machine (record machine { wheels = new })
  wheels_sense new is same =
      one_senses machine ordered (record machine { wheels = new }) cycle point picture unit (omega (arith, is)) (omega (arith, is))
      (last_set machine ordered (last_units (record machine { wheels = new })) unit 4 (any_sensed (unit_at machine unit) cycle point picture) is
      (ap (λ (state : WheelsState). last_units (record machine { wheels = state })) same
      ∙ ap (λ u. slice_set (last_units machine) 4 (any_sensed u cycle point picture)) (sym (last_at machine ordered unit 4 is))))

  pub carriage_senses : (new : CarriageState) → unit ≡ 44 → new ≡ carriage_sensed machine.carriage cycle point picture
      → SensesOne cycle point picture unit machine (record machine { carriage = new })
  carriage_senses new is same =
      one_senses machine ordered (record machine { carriage = new }) cycle point picture unit (omega (arith, is)) (omega (arith, is))
      (last_set machine ordered (last_units (record machine { carriage = new })) unit 5 (any_sensed (unit_at machine unit) cycle point picture) is
      (ap (λ (state : CarriageState). last_units (record machine { carriage = state })) same
      ∙ ap (λ u. slice_set (last_units machine) 5 (any_sensed u cycle point picture)) (sym (last_at machine ordered unit 5 is))))

  pub program_senses : (new : ProgramState) → unit ≡ 45 → new ≡ program_sensed machine.program cycle point picture
      → SensesOne cycle point picture unit machine (record machine { program = new })
  program_senses new is same =
      one_senses machine ordered (record machine { program = new }) cycle point picture unit (omega (arith, is)) (omega (arith, is))
      (last_set machine ordered (last_units (record machine { program = new })) unit 6 (any_sensed (unit_at machine unit) cycle point picture) is
      (ap (λ (state : ProgramState). last_units (record machine { program = state })) same
      ∙ ap (λ u. slice_set (last_units machine) 6 (any_sensed u cycle point picture)) (sym (last_at machine ordered unit 6 is))))
