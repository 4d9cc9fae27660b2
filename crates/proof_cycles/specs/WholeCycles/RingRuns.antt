-- Runs in which carries are no impulses: in each cycle every counter group turns by itself, as a ring where it is wired to itself, and
-- no carry is seen at any hub. Setups in which no two groups are joined run so.
use Rattle.std.specs.Prelude.{◌≡◌, ◌↔◌, ℕ, Bool, List, map}
use Rattle.card_code.specs.declared.row.Row.{Row as CardRow}
use Rattle.machine.specs.Below.carriage.Carriage.{carriage_sensed, carriage_ended}
use Rattle.machine.specs.Below.page_text.declared.placed_lines.placed_line.PlacedLine.{PlacedLine}
use Rattle.hubs.specs.SetupsWords.Wiring.{LeadsToEntries, Wiring, is_wired}
use Rattle.hubs.specs.declared.hub.Hub.{Hub}
use Rattle.hubs.specs.declared.hub.Hub.TheVariants.{CI, CO}
use Rattle.net.specs.Impulsed.{IsPicture}
use Rattle.net.specs.declared.cycle.Cycle.{Cycle}
use Rattle.net.specs.declared.cycle.Point.{Point}
use Rattle.net.specs.declared.cycle.Point.TheVariants.{C, Row, K}
use Rattle.machine.specs.Below.print_unit.Wheels.{emptied}
use Rattle.machine.specs.Below.print_unit.ZeroControl.{printed_line, has_zero_control}
use Rattle.machine.specs.Below.program_unit.Program.{program_sensed, program_ended}
use Rattle.machine.specs.Below.selectors.Indicate.{indicate_ended}
use Rattle.machine.specs.Below.selectors.WholeCycles as selectors
use Rattle.machine.specs.Below.stations.Comparing.{comparing_at_start}
use Rattle.machine.specs.Below.storage_units.WholeCycles as storage_units
use Rattle.machine.specs.Cycles.{CycleRun}
use Rattle.machine.specs.Machine.{MachineState, closes}
use Rattle.machine.specs.Runs.{RunsBy, run_at_start}
use Rattle.proof_cycles.specs.WholeCycles.Between.{IsBetween}
use Rattle.proof_cycles.specs.WholeCycles.Carries.{but_carries}
use Rattle.proof_cycles.specs.WholeCycles.Rings.{JoinsNoGroups, after_turning}
use Rattle.proof_cycles.specs.WholeCycles.WholeCycles.{control_emits, row_emits, closing_emits, wheels_after}

-- A cycle in which carries are no impulses. No carry exit emits at its closing point, and no contact of a carry is closed there. Each
-- group turns by itself, as a ring where its carry exit is wired to its carry entry, else on the line. All other units do what they do in
-- every whole cycle.
pub record RingCycle (wiring : Wiring) (cycle : Cycle) (old new : MachineState) : Type 0 where
  pub pictures : Point → Hub → Bool
  pub control : IsPicture wiring (control_emits cycle) (closes old cycle C) (pictures C)
  pub rows :
      (row : CardRow) → IsPicture wiring (row_emits old pictures cycle row) (closes old cycle (Row row)) (pictures (Row row))
  pub closing : IsPicture wiring (closing_emits pictures cycle) (but_carries (closes old cycle K)) (pictures K)
  pub stations : new.stations ≡ old.stations
  pub comparing : new.comparing ≡ comparing_at_start
  pub groups :
      new.groups
      ≡ map (λ group. after_turning (is_wired wiring (CO group.name) (CI group.name)) cycle pictures group) old.groups
  pub storage : new.storage ≡ map (storage_units.after_cycle cycle pictures) old.storage
  pub pilots : new.pilots ≡ selectors.after_cycle cycle pictures old.pilots
  pub indicate : new.indicate ≡ indicate_ended old.indicate cycle
  pub splits : new.splits ≡ old.splits
  pub emitters : new.emitters ≡ old.emitters
  pub wheels : new.wheels.wheels ≡ map emptied old.wheels.wheels
  pub line : new.wheels.line ≡ printed_line (has_zero_control cycle) (wheels_after pictures old.wheels.wheels)
  pub carriage : new.carriage ≡ carriage_ended (carriage_sensed old.carriage cycle C (pictures C)) cycle
  pub program : new.program ≡ program_ended (program_sensed old.program cycle K (pictures K)) cycle

-- Where no two groups are joined, the cycles of the machine are those in which carries are no impulses. So are its runs over a deck: by
-- both relations the same cycles run and the same lines are placed.
pub record RingsRunByThemselves : Type 0 where
  pub cycle :
      (wiring : Wiring) (cycle : Cycle) (old new : MachineState)
      → LeadsToEntries wiring → JoinsNoGroups wiring → IsBetween old
      → CycleRun wiring cycle old new ↔ RingCycle wiring cycle old new
  pub runs :
      (wiring : Wiring) (cards : List (List ℕ)) (cycles : List Cycle) (lines : List PlacedLine)
      → LeadsToEntries wiring → JoinsNoGroups wiring
      → RunsBy (CycleRun wiring) cycles (run_at_start wiring cards) lines
      ↔ RunsBy (RingCycle wiring) cycles (run_at_start wiring cards) lines
