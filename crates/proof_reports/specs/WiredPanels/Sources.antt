-- What emits at a point of a whole cycle, told by exits.
use Rattle.std.specs.Prelude.{◌≡◌, ℕ, ◌≤◌, ◌-◌, Bool, true, List, Contains, Some, length, slice_index}
use Rattle.proof_cycles.specs.Below.card_code.Rows.{row_number}
use Rattle.proof_cycles.specs.Below.card_code.declared.row.Row.{Row as CardRow}
use Rattle.proof_cycles.specs.Below.counters.Counters.{Counter}
use Rattle.proof_cycles.specs.Below.hubs.declared.hub.Hub.{Hub}
use Rattle.proof_cycles.specs.Below.hubs.declared.hub.Hub.TheVariants.{FR, SR, GX, SX, EM, CC, PX, HX, RO, SO}
use Rattle.proof_cycles.specs.Below.machine.Machine.{MachineState}
use Rattle.proof_cycles.specs.Below.net.Cycles.{level_number, ordinal_number}
use Rattle.proof_cycles.specs.Below.net.declared.cycle.Cycle.{Cycle}
use Rattle.proof_cycles.specs.Below.net.declared.cycle.Cycle.TheVariants.{RunIn, Card, Prog, Head}
use Rattle.proof_cycles.specs.Below.net.declared.cycle.ProgramLevel.{ProgramLevel}
use Rattle.proof_cycles.specs.Below.net.declared.cycle.Ordinal.{Ordinal}
use Rattle.proof_cycles.specs.Below.net.declared.cycle.Point.{Point}
use Rattle.proof_cycles.specs.Below.net.declared.cycle.Point.TheVariants.{C}
use Rattle.print_unit.specs.Emitters.{emitter_of}
use Rattle.proof_cycles.specs.Below.stations.Punches.{is_punched_at}
use Rattle.proof_cycles.specs.Below.storage_units.Storage.{StorageState, holds}

-- The exit that emits at the control point of a cycle.
pub data EmitsAtControl : Cycle → Hub → Type 0 where
  card : EmitsAtControl Card CC
  prog : (level : ProgramLevel) (ordinal : Ordinal) → EmitsAtControl (Prog level ordinal) (PX (level_number level) (ordinal_number ordinal))
  head : (heading : Ordinal) → EmitsAtControl (Head heading) (HX (ordinal_number heading))

-- the digit of a group at a position, counted from the units
abbrev pub digit_from_units : List ℕ → ℕ → ℕ
digit_from_units digits position = slice_index digits (length digits - position)

-- the cycles in which the card at first reading is read
pub data ReadsFirst : Cycle → Type 0 where
  run_in : ReadsFirst RunIn
  card : ReadsFirst Card

-- The exits that emit at a row: punches of the two cards, digits of the groups that read out, columns of the storage units that read
-- out, and the emitter of the cycle.
pub data EmitsAtRow (old : MachineState) (pictures : Point → Hub → Bool) (cycle : Cycle) (row : CardRow) : Hub → Type 0 where
  first : (column : ℕ) → ReadsFirst cycle → is_punched_at old.stations.first row column ≡ true
      → EmitsAtRow old pictures cycle row (FR column)
  second : (column : ℕ) → cycle ≡ Card → is_punched_at old.stations.second row column ≡ true
      → EmitsAtRow old pictures cycle row (SR column)
  digit : (group : Counter) (position : ℕ) → Contains old.groups group → pictures C (RO group.name) ≡ true
      → 1 ≤ position → position ≤ length group.digits → digit_from_units group.digits position ≡ row_number row
      → EmitsAtRow old pictures cycle row (GX group.name position)
  column : (storage : StorageState) (column : ℕ) → Contains old.storage storage
      → pictures C (SO storage.place) ≡ true → holds storage row column ≡ true
      → EmitsAtRow old pictures cycle row (SX storage.place column)
  emitter : (emitter : ℕ) → emitter_of cycle ≡ Some emitter → EmitsAtRow old pictures cycle row (EM emitter (row_number row))
