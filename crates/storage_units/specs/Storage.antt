-- A storage unit of 16 columns. At the control point it senses whether it reads in and whether it reads out, and both
-- hold for the cycle; what it receives begins blank there. Reading out, it emits what it held at the start of the cycle.
-- Reading in, it holds at the end what its entries received in the cycle, in all columns, and is blank where nothing came.
-- Else it keeps what it held.
use Rattle.std.specs.Prelude.{ℕ, ◌+◌, ◌-◌, ◌&&◌, ◌==◌, Bool, false, List, replicate, slice_index, slice_set, if◌then◌else◌}
use Rattle.card_code.specs.Rows.{passing_place}
use Rattle.card_code.specs.declared.row.Row.{Row as CardRow}
use Rattle.hubs.specs.declared.hub.Hub.{Hub}
use Rattle.hubs.specs.declared.hub.Hub.TheVariants.{SX, SE, SI, SO}
use Rattle.net.specs.declared.cycle.Cycle.{Cycle}
use Rattle.net.specs.declared.cycle.Point.{Point}
use Rattle.net.specs.declared.cycle.Point.TheVariants.{C, Row, K}
use Rattle.storage_units.specs.Words.{word_of, has_column}

-- A storage unit: its place among the storage units, 1 to 4, as its hubs have it; for each row, in the order of the points, the
-- set of columns that hold it, and, where the unit reads in, that of the columns whose entries received it in this cycle; and
-- whether the unit reads in and reads out in this cycle.
pub record StorageState : Type 0 where
  pub place : ℕ
  pub held : List ℕ
  pub received : List ℕ
  pub reads_in : Bool
  pub reads_out : Bool

-- no row in any column
abbrev pub blank : List ℕ
blank = replicate 12 0

-- A storage unit, given by its number among the units, 35 to 38, starts blank, and reads neither in nor out.
abbrev pub storage_at_start : ℕ → StorageState
storage_at_start unit = record { place = unit - 34; held = blank; received = blank; reads_in = false; reads_out = false }

-- whether a column holds a row
abbrev pub holds : StorageState → CardRow → ℕ → Bool
holds storage row column = has_column (slice_index storage.held (passing_place row)) column

-- Reading out, it emits at the point of a row at each of its exits whose column holds the row.
abbrev pub storage_emits : StorageState → Cycle → Point → Hub → Bool
storage_emits storage cycle (Row row) (SX unit column) =
    (storage.reads_out && (unit == storage.place)) && holds storage row column
storage_emits storage cycle point hub = false

-- the columns whose entries are impulsed
abbrev pub columns_in : (Hub → Bool) → ℕ → ℕ
columns_in picture unit = word_of (λ column. picture (SE unit column)) 16

-- with a row as its columns received it, where it reads in
abbrev pub received_at : CardRow → ℕ → StorageState → StorageState
received_at row columns storage = record storage {
  received = if storage.reads_in then slice_set storage.received (passing_place row) columns else storage.received;
}

-- What it senses: its controls at the control point, and each row at its point. What it receives begins blank.
abbrev pub storage_sensed : StorageState → Cycle → Point → (Hub → Bool) → StorageState
storage_sensed storage cycle C picture = record storage {
  received = blank;
  reads_in = picture (SI storage.place);
  reads_out = picture (SO storage.place);
}
storage_sensed storage cycle (Row row) picture = received_at row (columns_in picture storage.place) storage
storage_sensed storage cycle K picture = storage

-- At the end of a cycle it holds what it received, where it reads in.
abbrev pub storage_ended : StorageState → Cycle → StorageState
storage_ended storage cycle =
    record storage { held = if storage.reads_in then storage.received else storage.held }

-- its number among the units
abbrev pub storage_number : StorageState → ℕ
storage_number storage = 34 + storage.place
