-- A cycle of the machine as a whole: one picture for each of its fourteen points, and what each unit is after it.
-- What the exits emit at the rows hangs on the state before the cycle and on the picture of the control point alone, and
-- no contact moves before the closing point but those of the splits; there the carries have theirs, by what was entered at the
-- rows. So a cycle is its control point, its twelve rows side by side, and its closing point.
use Rattle.std.specs.Prelude.{◌≡◌, ℕ, ◌-◌, ◌==◌, ◌&&◌, ◌||◌, Bool, false, List, ◌∷◌, map}
use Rattle.std.specs.List.{list_any, range_with_len}
use Rattle.card_code.specs.Rows.{rows, row_number}
use Rattle.card_code.specs.declared.row.Row.{Row as CardRow}
use Rattle.machine.specs.Below.carriage.Carriage.{carriage_sensed, carriage_ended}
use Rattle.counters.specs.Counters.{Counter, counter_emits, counter_sensed, shows}
use Rattle.counters.specs.WholeCycles as counters
use Rattle.hubs.specs.HubTable.Ranges.{is_within}
use Rattle.hubs.specs.SetupsWords.Wiring.{Wiring}
use Rattle.hubs.specs.declared.hub.Hub.{Hub}
use Rattle.hubs.specs.declared.hub.Hub.TheVariants.{CX, SX, CA, CB, RO, SO, W}
use Rattle.net.specs.Impulsed.{IsPicture}
use Rattle.net.specs.WholeCycles.{after_points}
use Rattle.net.specs.declared.cycle.Cycle.{Cycle}
use Rattle.net.specs.declared.cycle.Cycle.TheVariants.{Card}
use Rattle.net.specs.declared.cycle.Point.{Point}
use Rattle.net.specs.declared.cycle.Point.TheVariants.{C, Row, K}
use Rattle.machine.specs.Below.print_unit.Emitters.{emitters_emit}
use Rattle.machine.specs.Below.print_unit.Laws.{wheel_at_place}
use Rattle.machine.specs.Below.print_unit.Wheels.{emptied, wheel_at_start}
use Rattle.machine.specs.Below.print_unit.ZeroControl.{Wheel, printed_line, has_zero_control}
use Rattle.machine.specs.Below.program_unit.Program.{program_sensed, program_ended, tells}
use Rattle.machine.specs.Below.selectors.Indicate.{indicate_ended}
use Rattle.machine.specs.Below.selectors.WholeCycles as selectors
use Rattle.machine.specs.Below.stations.Comparing.{comparing_at_start, are_unlike}
use Rattle.machine.specs.Below.stations.Stations.{stations_emits}
use Rattle.machine.specs.Below.storage_units.Storage.{StorageState, holds}
use Rattle.machine.specs.Below.storage_units.WholeCycles as storage_units
use Rattle.machine.specs.Machine.{MachineState, closes}

-- At the control point the exit that tells of the cycle emits, and no other.
abbrev pub control_emits : Cycle → Hub → Bool
control_emits cycle hub = tells cycle hub

-- A counter group told to read out at the control point emits at the row of each digit that it shows at the start.
abbrev pub group_reads_out : (Point → Hub → Bool) → CardRow → Counter → Hub → Bool
group_reads_out pictures row group hub = pictures C (RO group.name) && shows group.name (row_number row) group.digits hub

-- A storage unit told to read out at the control point emits the rows that its columns hold at the start.
abbrev pub storage_reads_out : (Point → Hub → Bool) → CardRow → StorageState → Hub → Bool
storage_reads_out pictures row storage (SX unit column) =
    (pictures C (SO storage.place) && (unit == storage.place)) && holds storage row column
storage_reads_out pictures row storage hub = false

-- What is emitted at a row: the punches of the cards at the stations, the digits of the groups and the columns of the storage
-- units that read out, and the emitter of the cycle.
abbrev pub row_emits : MachineState → (Point → Hub → Bool) → Cycle → CardRow → Hub → Bool
row_emits old pictures cycle row hub =
    stations_emits old.stations cycle (Row row) hub
    || list_any (λ group. group_reads_out pictures row group hub) old.groups
    || list_any (λ storage. storage_reads_out pictures row storage hub) old.storage
    || emitters_emit old.emitters cycle (Row row) hub

-- whether one entry of a comparing position is impulsed at some row and the other is not
abbrev pub compares_unlike : (Point → Hub → Bool) → ℕ → Bool
compares_unlike pictures p = list_any (λ row. are_unlike (pictures (Row row) (CA p)) (pictures (Row row) (CB p))) rows

-- At the closing point of a card cycle the comparing positions emit whose entries differ; besides, carries leave counter groups.
abbrev pub closing_emits : (Point → Hub → Bool) → Cycle → Hub → Bool
closing_emits pictures Card (CX p) = is_within p 30 && compares_unlike pictures p
closing_emits pictures cycle hub = false

-- a counter group as the closing point finds it: with the controls of the cycle, and with what was entered at the rows
abbrev pub before_closing : Cycle → (Point → Hub → Bool) → Counter → Counter
before_closing cycle pictures group = after_points counter_sensed cycle pictures (C ∷ map Row rows) group

-- the carry exits that emit at the closing point: those of the groups that a carry leaves
abbrev pub carry_emits : MachineState → (Point → Hub → Bool) → Cycle → Hub → Bool
carry_emits old pictures cycle hub = list_any (λ group. counter_emits (before_closing cycle pictures group) cycle K hub) old.groups

-- what is emitted at the closing point
abbrev pub all_closing_emits : MachineState → (Point → Hub → Bool) → Cycle → Hub → Bool
all_closing_emits old pictures cycle hub = closing_emits pictures cycle hub || carry_emits old pictures cycle hub

-- the contacts that are closed at the closing point: those of the carries by what was entered, the others as before the cycle
abbrev pub closing_closes : MachineState → (Point → Hub → Bool) → Cycle → Hub → Bool
closing_closes old pictures cycle = closes (record old { groups = map (before_closing cycle pictures) old.groups }) cycle K

-- the picture of the closing point
abbrev pub IsClosingPicture : Wiring → MachineState → (Point → Hub → Bool) → Cycle → Type 0
IsClosingPicture wiring old pictures cycle =
    IsPicture wiring (all_closing_emits old pictures cycle) (closing_closes old pictures cycle) (pictures K)

-- the rows at whose points a wheel's hub is impulsed, in the order of the points
abbrev pub rows_received : (Point → Hub → Bool) → ℕ → List Bool
rows_received pictures v = map (λ row. pictures (Row row) (W v)) rows

-- wheel v with all that it receives in the cycle, and the jacks that it had
abbrev pub wheel_after : (Point → Hub → Bool) → List Wheel → ℕ → Wheel
wheel_after pictures wheels v = record (wheel_at_place wheels (v - 1)) { received = rows_received pictures v }

-- the wheels 1 to 120 with all that they receive in the cycle
abbrev pub wheels_after : (Point → Hub → Bool) → List Wheel → List Wheel
wheels_after pictures wheels = map (wheel_after pictures wheels) (range_with_len 1 120)

-- wheel v of a setup with all that it receives in the cycle
abbrev pub wheel_received : Wiring → (Point → Hub → Bool) → ℕ → Wheel
wheel_received wiring pictures v = record (wheel_at_start wiring v) { received = rows_received pictures v }

-- A whole cycle: the pictures of its points, and each unit after it. The pilots, the storage units and the counter groups sense all
-- points, the wheels the rows, the carriage the control point and the program unit the closing point.
pub record WholeCycle (wiring : Wiring) (cycle : Cycle) (old new : MachineState) : Type 0 where
  pub pictures : Point → Hub → Bool
  pub control : IsPicture wiring (control_emits cycle) (closes old cycle C) (pictures C)
  pub rows :
      (row : CardRow) → IsPicture wiring (row_emits old pictures cycle row) (closes old cycle (Row row)) (pictures (Row row))
  pub closing : IsClosingPicture wiring old pictures cycle
  pub stations : new.stations ≡ old.stations
  pub comparing : new.comparing ≡ comparing_at_start
  pub groups : new.groups ≡ map (counters.after_cycle cycle pictures) old.groups
  pub storage : new.storage ≡ map (storage_units.after_cycle cycle pictures) old.storage
  pub pilots : new.pilots ≡ selectors.after_cycle cycle pictures old.pilots
  pub indicate : new.indicate ≡ indicate_ended old.indicate cycle
  pub splits : new.splits ≡ old.splits
  pub emitters : new.emitters ≡ old.emitters
  pub wheels : new.wheels.wheels ≡ map emptied old.wheels.wheels
  pub line : new.wheels.line ≡ printed_line (has_zero_control cycle) (wheels_after pictures old.wheels.wheels)
  pub carriage : new.carriage ≡ carriage_ended (carriage_sensed old.carriage cycle C (pictures C)) cycle
  pub program : new.program ≡ program_ended (program_sensed old.program cycle K (pictures K)) cycle
