-- What an exit that emits at a row, and a contact that is closed there, say of the machine just before the cycle: the words of an
-- explanation tell this of them.
use Rattle.std.specs.Prelude.{◌≡◌, ℕ, ◌==◌, ◌&&◌, not, Bool, true, false, Some}
use Rattle.std.specs.List.{list_any}
use Rattle.card_code.specs.Rows.{row_number}
use Rattle.card_code.specs.declared.row.Row.{Row as CardRow}
use Rattle.hubs.specs.declared.hub.Group.{Group}
use Rattle.hubs.specs.declared.hub.Hub.{Hub}
use Rattle.hubs.specs.declared.hub.Hub.TheVariants.{FR, SR, GX, SX, EM, CO, BAN, BAT, PIN, PIT, IX, CSD, CSZ}
use Rattle.machine.specs.Below.counters.Counters.{Counter, counter_number, shows}
use Rattle.net.specs.Panel.{unit_of}
use Rattle.print_unit.specs.Emitters.{emitter_of}
use Rattle.machine.specs.Below.selectors.Indicate.{is_latch_set}
use Rattle.machine.specs.Below.selectors.Pilots.{is_normal, is_transferred}
use Rattle.machine.specs.Below.selectors.Splits.{is_digit_row}
use Rattle.machine.specs.Below.stations.Punches.{is_punched_at}
use Rattle.machine.specs.Below.storage_units.Storage.{StorageState, holds}
use Rattle.machine.specs.Machine.{MachineState, closes}
use Rattle.net.specs.declared.cycle.Cycle.{Cycle}
use Rattle.net.specs.declared.cycle.Cycle.TheVariants.{Card}
use Rattle.net.specs.declared.cycle.Point.{Point}
use Rattle.net.specs.declared.cycle.Point.TheVariants.{Row}
use Rattle.proof_cycles.specs.WholeCycles.WholeCycles.{row_emits}

-- whether some counter group is the one that is named, and its latch is set, or reset
abbrev pub has_latch : MachineState → Group → Bool
has_latch machine group = list_any (λ (counter : Counter). (unit_of group == counter_number counter) && counter.latch) machine.groups

abbrev pub lacks_latch : MachineState → Group → Bool
lacks_latch machine group = list_any (λ (counter : Counter). (unit_of group == counter_number counter) && not counter.latch) machine.groups

-- whether some counter group shows a digit at an exit
abbrev pub shows_at : MachineState → CardRow → Hub → Bool
shows_at machine row exit = list_any (λ (counter : Counter). shows counter.name (row_number row) counter.digits exit) machine.groups

-- whether some storage unit is the one of the place, and holds a row in a column
abbrev pub holds_at : MachineState → CardRow → ℕ → ℕ → Bool
holds_at machine row place column =
    list_any (λ (storage : StorageState). (place == storage.place) && holds storage row column) machine.storage

-- A closed contact says that the latch is set, or reset; that the pilot is transferred, or normal; that the card is the first of a group;
-- that the row is one of the digits, or above them. No carry has its contact closed at a row.
abbrev pub ContactSays : MachineState → Cycle → CardRow → Hub → Type 0
ContactSays machine cycle row (BAT group position) = has_latch machine group ≡ true
ContactSays machine cycle row (BAN group position) = lacks_latch machine group ≡ true
ContactSays machine cycle row (PIT pilot position) = is_transferred machine.pilots pilot ≡ true
ContactSays machine cycle row (PIN pilot position) = is_normal machine.pilots pilot ≡ true
ContactSays machine cycle row (IX level position) = (cycle ≡ Card) × (is_latch_set machine.indicate level ≡ true)
ContactSays machine cycle row (CSD split) = is_digit_row row ≡ true
ContactSays machine cycle row (CSZ split) = is_digit_row row ≡ false
ContactSays machine cycle row (CO group) = ⊥
ContactSays machine cycle row hub = ⊥

-- An exit that emits says that the card at its station is punched in the column; that the emitter is that of the cycle; that the
-- counter group shows the digit at the position; that the storage unit holds the row in the column. No other exit emits at a row.
abbrev pub ExitSays : MachineState → Cycle → CardRow → Hub → Type 0
ExitSays machine cycle row (SR column) = is_punched_at machine.stations.second row column ≡ true
ExitSays machine cycle row (FR column) = is_punched_at machine.stations.first row column ≡ true
ExitSays machine cycle row (EM emitter own) = (emitter_of cycle ≡ Some emitter) × (own ≡ row_number row)
ExitSays machine cycle row (GX group position) = shows_at machine row (GX group position) ≡ true
ExitSays machine cycle row (SX place column) = holds_at machine row place column ≡ true
ExitSays machine cycle row hub = ⊥

-- So the words on exits and contacts say what is so.
pub record UnitsAreAsTold : Type 0 where
  pub contacts :
      (machine : MachineState) (cycle : Cycle) (row : CardRow) (hub : Hub) → closes machine cycle (Row row) hub ≡ true
      → ContactSays machine cycle row hub
  pub exits :
      (machine : MachineState) (pictures : Point → Hub → Bool) (cycle : Cycle) (row : CardRow) (hub : Hub)
      → row_emits machine pictures cycle row hub ≡ true → ExitSays machine cycle row hub
