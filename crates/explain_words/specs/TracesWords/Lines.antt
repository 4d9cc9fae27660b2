-- The line of a cycle in a trace: which cycle it was, and then what it did, each thing behind three spaces.
use Rattle.std.specs.Prelude.{ℕ, ◌-◌, List, [], ◌++◌, codes, length, replicate}
use Rattle.std.specs.List.{flat_map}
use Rattle.counters.specs.Counters.{Counter, counter_ended}
use Rattle.explain_ledgers.specs.LedgersWords.LedgerText.Names.{cycle_name}
use Rattle.net.specs.declared.cycle.Cycle.{Cycle}
use Rattle.net.specs.declared.cycle.Cycle.TheVariants.{RunIn}
use Rattle.storage_units.specs.Storage.{StorageState, storage_ended}
use Rattle.machine.specs.Cycles.{line_of}
use Rattle.machine.specs.Machine.{MachineState, ended}
use Rattle.explain_words.specs.TracesWords.TracedUnits.{group_told, line_told, pilots_told, storage_told}

-- the run-in reads the first card
abbrev pub reading_told : Cycle → List ℕ
reading_told RunIn = codes "   card 1 at first reading"
reading_told cycle = []

abbrev pub groups_told : Cycle → List Counter → List ℕ
groups_told cycle groups = flat_map (λ group. group_told group (counter_ended group cycle)) groups

abbrev pub storages_told : Cycle → List StorageState → List ℕ
storages_told cycle storages = flat_map (λ storage. storage_told storage (storage_ended storage cycle)) storages

-- what the units do in a cycle, by the machine behind its points
abbrev pub units_told : Cycle → MachineState → List ℕ
units_told cycle machine =
    reading_told cycle ++ groups_told cycle machine.groups ++ storages_told cycle machine.storage ++ pilots_told machine.pilots

-- what is told of a cycle: what the units do in it, and the line that its end places
abbrev pub cycle_told : Cycle → MachineState → List ℕ
cycle_told cycle machine = units_told cycle machine ++ flat_map line_told (line_of (ended machine cycle))

-- a name with spaces up to the seventeenth place, where something follows
abbrev pub put_behind : List ℕ → List ℕ → List ℕ
put_behind name [] = name
put_behind name told = name ++ replicate (16 - length name) 32 ++ told

-- The line of a cycle, by the number of the card that was read last and the machine behind the points of the cycle.
abbrev pub cycle_line : Cycle → ℕ → MachineState → List ℕ
cycle_line cycle card machine = put_behind (cycle_name cycle card) (cycle_told cycle machine) ++ codes "\n"
