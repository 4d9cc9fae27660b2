-- What stands in the machine between two cycles of a run was left by the last cycle that changed it.
use Rattle.std.specs.Prelude.{◌≡◌, ℕ, ◌<◌, not, Bool, false, List, Option, Some, None, slice_index_or, if◌then◌else◌}
use Rattle.card_code.specs.declared.row.Row.{Row}
use Rattle.counters.specs.Counters.{digits_ended, top_is_nine}
use Rattle.explain_ledgers.specs.LedgersWords.Ledgers.{Along, Goes, along_after, along_at_start, card_in, group_at}
use Rattle.explain_ledgers.specs.LedgersWords.Running.{HasCycle}
use Rattle.machine.specs.Machine.{MachineState}
use Rattle.net.specs.declared.cycle.Cycle.{Cycle}
use Rattle.selectors.specs.Pilots.{moves_pilots, no_pilots}
use Rattle.hubs.specs.SetupsWords.Wiring.{Wiring}
use Rattle.storage_units.specs.Storage.{StorageState, holds, storage_at_start, storage_ended}
use Rattle.explain_origins.specs.Holding.{hold_same}
use Rattle.explain_origins.specs.declared.changes.PassedCycle.{PassedCycle}
use Rattle.explain_origins.specs.declared.holders.Holder.{Holder}
use Rattle.explain_origins.specs.declared.holders.Holder.TheVariants.{Storage, Pilot, Latch}

-- the cycle of a place of a run
abbrev pub passed_cycle : Cycle → Along → PassedCycle
passed_cycle cycle along = record { cycle = cycle; card = card_in cycle along.card; passed = along.passed }

-- this cycle if it did it, else the last one that did
abbrev pub last_with : Bool → PassedCycle → Option PassedCycle → Option PassedCycle
last_with done here last = if done then Some here else last

-- The last cycle up to a place of a run that did something, by the machine behind its points; none if none did.
pub data IsLast (wiring : Wiring) (deck : List (List ℕ)) (does : Cycle → MachineState → Bool) : Along → Option PassedCycle → Type 0 where
  begun : IsLast wiring deck does (along_at_start wiring deck) None
  more :
      (cycle : Cycle) (along : Along) (last : Option PassedCycle) (behind : MachineState)
      → IsLast wiring deck does along last
      → Goes wiring cycle along behind
      → IsLast wiring deck does (along_after cycle behind along) (last_with (does cycle behind) (passed_cycle cycle along) last)

-- It is the last one of those that are over when so many are.
pub record IsLastBefore (wiring : Wiring) (deck : List (List ℕ)) (passed : ℕ) (does : Cycle → MachineState → Bool) (last : Option PassedCycle) :
    Type 0 where
  pub along : Along
  pub counted : along.passed ≡ passed
  pub is : IsLast wiring deck does along last

-- a storage unit by its place, from 0
abbrev pub storage_at : List StorageState → ℕ → StorageState
storage_at units place = slice_index_or units place (storage_at_start 35)

-- a unit holds another text at the end of a cycle than before, by the unit behind the points of the cycle
abbrev pub is_changed : Cycle → StorageState → Bool
is_changed cycle storage = not (hold_same storage (storage_ended storage cycle))

-- so it is with the unit of a place
abbrev pub changes : ℕ → Cycle → MachineState → Bool
changes place cycle behind = is_changed cycle (storage_at behind.storage place)

-- a cycle tests the balance of the group of a place
abbrev pub tests : ℕ → Cycle → MachineState → Bool
tests place cycle behind = (group_at behind place).controls.test

-- a cycle moves what a holder holds: it changes the text of a storage unit, sets each pilot anew, or tests a balance
abbrev pub moves : Holder → Cycle → MachineState → Bool
moves (Storage place) cycle behind = changes place cycle behind
moves (Pilot pilot) cycle behind = moves_pilots cycle
moves (Latch place) cycle behind = tests place cycle behind

-- what the unit of a place holds, row by row and column by column
abbrev pub text_held : ℕ → MachineState → Row → ℕ → Bool
text_held place machine = holds (storage_at machine.storage place)

-- what it holds at the end of a cycle, by the machine behind its points
abbrev pub text_left : ℕ → Cycle → MachineState → Row → ℕ → Bool
text_left place cycle behind = holds (storage_ended (storage_at behind.storage place) cycle)

-- what was left by the last cycle that did something: what stood at the start if none did, else what that cycle left
abbrev pub LeftBy : {X : Type 0} → Wiring → List (List ℕ) → X → (Cycle → MachineState → X) → Option PassedCycle → X → Type 0
LeftBy wiring deck first leaves None now = now ≡ first
LeftBy wiring deck first leaves (Some here) now = (has : HasCycle wiring deck here.passed) → now ≡ leaves has.cycle has.behind

-- A storage unit holds what the last cycle left that changed its text, and what it held at the start if none did.
abbrev pub StorageIsKept : Type 0
StorageIsKept =
    (wiring : Wiring) (deck : List (List ℕ)) (place : ℕ) (along : Along) (last : Option PassedCycle)
    → place < 4 → IsLast wiring deck (moves (Storage place)) along last
    → LeftBy wiring deck (holds (storage_at_start 35)) (text_left place) last (text_held place along.run.machine)

-- The pilots stand as the last cycle that moves them picked them up, and all are normal if none did.
abbrev pub PilotsArePickedUp : Type 0
PilotsArePickedUp =
    (wiring : Wiring) (deck : List (List ℕ)) (pilot : ℕ) (along : Along) (last : Option PassedCycle)
    → IsLast wiring deck (moves (Pilot pilot)) along last
    → LeftBy wiring deck no_pilots (λ cycle behind. behind.pilots.picked_up) last along.run.machine.pilots.transferred

-- the balance latch of a group at the end of a cycle that tests it: whether the number has a 9 on top then
abbrev pub latch_left : ℕ → Cycle → MachineState → Bool
latch_left place cycle behind = top_is_nine (digits_ended (group_at behind place))

-- A balance latch stands as the last cycle left it that tested it, and is reset if none did.
abbrev pub LatchesAreTested : Type 0
LatchesAreTested =
    (wiring : Wiring) (deck : List (List ℕ)) (place : ℕ) (along : Along) (last : Option PassedCycle)
    → place < 32 → IsLast wiring deck (moves (Latch place)) along last
    → LeftBy wiring deck false (latch_left place) last (group_at along.run.machine place).latch
