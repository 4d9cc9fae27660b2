-- Machines with the same units are the same.
use Rattle.std.proofs.Common.{◌≡◌, ◌∙◌, ap, sym, refl, List, [], ◌∷◌, ◌++◌, map}
use Rattle.counters.specs.Counters.{Counter}
use Rattle.machine.specs.Machine.{MachineState}
use Rattle.machine_served.specs.ServedUnits.AnyUnit.{AnyUnit, last_units, units_of}
use Rattle.machine_served.specs.ServedUnits.AnyUnit.AnyUnit.{CarriageUnit, ComparingUnit, EmittersUnit, GroupUnit, IndicationUnit, PilotsUnit, ProgramUnit, SplitsUnit, StationsUnit, StorageUnit, WheelsUnit}
use Rattle.storage_units.specs.Storage.{StorageState}

-- the counter groups among units, the storage units among them, and the others
groups_in : List AnyUnit → List Counter
groups_in [] = []
groups_in (GroupUnit group ∷ units) = group ∷ groups_in units
groups_in (unit ∷ units) = groups_in units

storage_in : List AnyUnit → List StorageState
storage_in [] = []
storage_in (StorageUnit storage ∷ units) = storage ∷ storage_in units
storage_in (unit ∷ units) = storage_in units

others_in : List AnyUnit → List AnyUnit
others_in [] = []
others_in (GroupUnit group ∷ units) = others_in units
others_in (StorageUnit storage ∷ units) = others_in units
others_in (unit ∷ units) = unit ∷ others_in units

groups_in-groups : (groups : List Counter) (units : List AnyUnit)
    → groups_in (map GroupUnit groups ++ units) ≡ groups ++ groups_in units
unfolding groups_in
groups_in-groups [] units = refl
groups_in-groups (group ∷ groups) units = ap (λ (rest : List Counter). group ∷ rest) (groups_in-groups groups units)

groups_in-storage : (storage : List StorageState) (units : List AnyUnit)
    → groups_in (map StorageUnit storage ++ units) ≡ groups_in units
unfolding groups_in
groups_in-storage [] units = refl
groups_in-storage (one ∷ storage) units = groups_in-storage storage units

storage_in-groups : (groups : List Counter) (units : List AnyUnit)
    → storage_in (map GroupUnit groups ++ units) ≡ storage_in units
unfolding storage_in
storage_in-groups [] units = refl
storage_in-groups (group ∷ groups) units = storage_in-groups groups units

storage_in-storage : (storage : List StorageState) (units : List AnyUnit)
    → storage_in (map StorageUnit storage ++ units) ≡ storage ++ storage_in units
unfolding storage_in
storage_in-storage [] units = refl
storage_in-storage (one ∷ storage) units = ap (λ (rest : List StorageState). one ∷ rest) (storage_in-storage storage units)

others_in-groups : (groups : List Counter) (units : List AnyUnit) → others_in (map GroupUnit groups ++ units) ≡ others_in units
unfolding others_in
others_in-groups [] units = refl
others_in-groups (group ∷ groups) units = others_in-groups groups units

others_in-storage : (storage : List StorageState) (units : List AnyUnit)
    → others_in (map StorageUnit storage ++ units) ≡ others_in units
unfolding others_in
others_in-storage [] units = refl
others_in-storage (one ∷ storage) units = others_in-storage storage units

none_more : {A : Type 0} (xs : List A) → xs ++ [] ≡ xs
none_more [] = refl
none_more {A} (x ∷ xs) = ap (λ (rest : List A). x ∷ rest) (none_more xs)

-- what stands among the units of a machine
groups_of : (machine : MachineState) → groups_in (units_of machine) ≡ machine.groups
unfolding groups_in
groups_of machine =
    groups_in-groups machine.groups (map StorageUnit machine.storage ++ last_units machine)
    ∙ ap (λ (rest : List Counter). machine.groups ++ rest) (groups_in-storage machine.storage (last_units machine))
    ∙ none_more machine.groups

storage_of : (machine : MachineState) → storage_in (units_of machine) ≡ machine.storage
unfolding storage_in
storage_of machine =
    storage_in-groups machine.groups (map StorageUnit machine.storage ++ last_units machine)
    ∙ storage_in-storage machine.storage (last_units machine)
    ∙ none_more machine.storage

others_of : (machine : MachineState)
    → others_in (units_of machine) ≡ StationsUnit machine.stations ∷ ComparingUnit machine.comparing ∷ last_units machine
unfolding others_in
others_of machine =
    ap (λ (rest : List AnyUnit). StationsUnit machine.stations ∷ ComparingUnit machine.comparing ∷ rest)
    (others_in-groups machine.groups (map StorageUnit machine.storage ++ last_units machine)
    ∙ others_in-storage machine.storage (last_units machine))

-- the machine of such units; where the others are none of a machine, any machine
made_of : MachineState → List Counter → List StorageState → List AnyUnit → MachineState
made_of none groups storage
    (StationsUnit stations ∷ ComparingUnit comparing ∷ PilotsUnit pilots ∷ IndicationUnit indicate ∷ SplitsUnit splits
    ∷ EmittersUnit emitters ∷ WheelsUnit wheels ∷ CarriageUnit carriage ∷ ProgramUnit program ∷ []) = record {
      stations = stations;
      comparing = comparing;
      groups = groups;
      storage = storage;
      pilots = pilots;
      indicate = indicate;
      splits = splits;
      emitters = emitters;
      wheels = wheels;
      carriage = carriage;
      program = program;
    }
made_of none groups storage units = none

made_again : (none machine : MachineState)
    → made_of none (groups_in (units_of machine)) (storage_in (units_of machine)) (others_in (units_of machine)) ≡ machine
unfolding made_of
made_again none machine =
    λ i. made_of none (groups_of machine i) (storage_of machine i) (others_of machine i)

-- machines with the same units are the same
pub same_units : (one other : MachineState) → units_of one ≡ units_of other → one ≡ other
same_units one other same =
    sym (made_again one one)
    ∙ ap (λ (units : List AnyUnit). made_of one (groups_in units) (storage_in units) (others_in units)) same
    ∙ made_again one other
