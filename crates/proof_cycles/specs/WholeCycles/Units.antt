-- Units by the names of their hubs: a counter group by its width and number, a storage unit by its number. Each exit is emitted, and
-- each contact closed, by the unit of its name alone.
use Rattle.std.specs.Prelude.{◌≡◌, ℕ, ◌+◌, ◌-◌, ◌≤◌, ◌&&◌, not, Bool, true, slice_index_or}
use Rattle.card_code.specs.Rows.{row_number}
use Rattle.card_code.specs.declared.row.Row.{Row as CardRow}
use Rattle.counters.specs.Counters.{Counter, counter_of, shows, wheels_in}
use Rattle.counters.specs.Rings.{CarriesBy}
use Rattle.counters.specs.WholeCycles as counters
use Rattle.hubs.specs.HubTable.Places.{is_width}
use Rattle.hubs.specs.HubTable.Ranges.{is_within}
use Rattle.hubs.specs.SetupsWords.Wiring.{Wiring}
use Rattle.hubs.specs.declared.hub.Group.{Group}
use Rattle.hubs.specs.declared.hub.Hub.{Hub}
use Rattle.hubs.specs.declared.hub.Hub.TheVariants.{FR, SR, GX, BAN, BAT, PIN, PIT, SX, IX, CSD, CSZ, EM, RO, SO}
use Rattle.net.specs.Panel.{unit_of}
use Rattle.net.specs.declared.cycle.Cycle.{Cycle}
use Rattle.net.specs.declared.cycle.Point.{Point}
use Rattle.net.specs.declared.cycle.Point.TheVariants.{C, Row}
use Rattle.machine.specs.Below.print_unit.Emitters.{emitter_of, emits_row}
use Rattle.machine.specs.Below.selectors.Indicate.{indicate_closes}
use Rattle.machine.specs.Below.selectors.Pilots.{pilots_closes}
use Rattle.machine.specs.Below.selectors.Splits.{split_closes}
use Rattle.machine.specs.Below.stations.Stations.{stations_emits}
use Rattle.machine.specs.Below.storage_units.Storage.{StorageState, holds, storage_at_start}
use Rattle.machine.specs.Below.storage_units.WholeCycles as columns
use Rattle.machine.specs.Machine.{MachineState, closes, machine_at_start}
use Rattle.proof_cycles.specs.WholeCycles.Between.{HasAllRows, IsIdle}
use Rattle.proof_cycles.specs.WholeCycles.WholeCycles.{WholeCycle, all_closing_emits, before_closing, closing_closes, row_emits}

-- the panel has the counter group
pub record IsGroup (name : Group) : Type 0 where
  pub width : is_width name.width ≡ true
  pub number : is_within name.number 8 ≡ true

-- the counter group of a name
abbrev pub group_at : MachineState → Group → Counter
group_at machine name = slice_index_or machine.groups (unit_of name - 3) (counter_of name)

-- the storage unit of a number, 1 to 4
abbrev pub storage_at : MachineState → ℕ → StorageState
storage_at machine number = slice_index_or machine.storage (number - 1) (storage_at_start (34 + number))

-- A counter group alone emits at its exits and closes its contacts, those of its carry among them, and goes through a cycle by
-- itself.
pub record IsGroupByName (machine : MachineState) (name : Group) : Type 0 where
  pub named : (group_at machine name).name ≡ name
  pub idle : IsIdle (group_at machine name)
  pub reads_out :
      (pictures : Point → Hub → Bool) (cycle : Cycle) (row : CardRow) (position : ℕ)
      → row_emits machine pictures cycle row (GX name position)
      ≡ (pictures C (RO name) && shows name (row_number row) (group_at machine name).digits (GX name position))
  pub normal :
      (cycle : Cycle) (point : Point) (position : ℕ)
      → closes machine cycle point (BAN name position) ≡ (is_within position 4 && not (group_at machine name).latch)
  pub transferred :
      (cycle : Cycle) (point : Point) (position : ℕ)
      → closes machine cycle point (BAT name position) ≡ (is_within position 4 && (group_at machine name).latch)
  pub carries :
      (pictures : Point → Hub → Bool) (cycle : Cycle)
      → CarriesBy (all_closing_emits machine pictures cycle) (closing_closes machine pictures cycle) name
      (wheels_in (before_closing cycle pictures (group_at machine name)))
  pub after :
      (wiring : Wiring) (cycle : Cycle) (new : MachineState) (whole : WholeCycle wiring cycle machine new)
      → group_at new name ≡ counters.after_cycle cycle whole.pictures (group_at machine name)

-- A storage unit alone emits at its exits, and goes through a cycle by itself.
pub record IsStorageByNumber (machine : MachineState) (number : ℕ) : Type 0 where
  pub placed : (storage_at machine number).place ≡ number
  pub has_rows : HasAllRows (storage_at machine number)
  pub reads_out :
      (pictures : Point → Hub → Bool) (cycle : Cycle) (row : CardRow) (column : ℕ)
      → row_emits machine pictures cycle row (SX number column)
      ≡ (pictures C (SO number) && holds (storage_at machine number) row column)
  pub after :
      (wiring : Wiring) (cycle : Cycle) (new : MachineState) (whole : WholeCycle wiring cycle machine new)
      → storage_at new number ≡ columns.after_cycle cycle whole.pictures (storage_at machine number)

-- At the other exits and contacts stations, emitters, pilots, group indication and splits are alone.
pub record AreAlone (machine : MachineState) : Type 0 where
  pub first_reading :
      (pictures : Point → Hub → Bool) (cycle : Cycle) (row : CardRow) (column : ℕ)
      → row_emits machine pictures cycle row (FR column) ≡ stations_emits machine.stations cycle (Row row) (FR column)
  pub second_reading :
      (pictures : Point → Hub → Bool) (cycle : Cycle) (row : CardRow) (column : ℕ)
      → row_emits machine pictures cycle row (SR column) ≡ stations_emits machine.stations cycle (Row row) (SR column)
  pub emitters :
      (pictures : Point → Hub → Bool) (cycle : Cycle) (row : CardRow) (emitter exit : ℕ)
      → row_emits machine pictures cycle row (EM emitter exit) ≡ emits_row (emitter_of cycle) row (EM emitter exit)
  pub normal_pilots :
      (cycle : Cycle) (point : Point) (pilot position : ℕ)
      → closes machine cycle point (PIN pilot position) ≡ pilots_closes machine.pilots cycle point (PIN pilot position)
  pub transferred_pilots :
      (cycle : Cycle) (point : Point) (pilot position : ℕ)
      → closes machine cycle point (PIT pilot position) ≡ pilots_closes machine.pilots cycle point (PIT pilot position)
  pub indication :
      (cycle : Cycle) (point : Point) (level position : ℕ)
      → closes machine cycle point (IX level position) ≡ indicate_closes machine.indicate cycle point (IX level position)
  pub digit_splits :
      (cycle : Cycle) (point : Point) (split : ℕ)
      → closes machine cycle point (CSD split) ≡ split_closes point (CSD split)
  pub zone_splits :
      (cycle : Cycle) (point : Point) (split : ℕ)
      → closes machine cycle point (CSZ split) ≡ split_closes point (CSZ split)

-- At the start a group stands at 0, and a storage unit is blank.
pub record UnitsStart (wiring : Wiring) : Type 0 where
  pub groups :
      (name : Group) → IsGroup name
      → group_at (machine_at_start wiring) name ≡ counter_of name
  pub storage :
      (number : ℕ) → 1 ≤ number → number ≤ 4
      → storage_at (machine_at_start wiring) number ≡ storage_at_start (34 + number)
