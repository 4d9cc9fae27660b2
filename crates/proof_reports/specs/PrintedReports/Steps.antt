-- What the cycles of a machine that is wired for a chart do: for each kind of cycle what it leaves and what it prints. What the counter
-- groups, contacts and storage units hold for it is told by tests of the machine, whatever they are.
use Rattle.std.specs.Prelude.{◌≡◌, ℕ, ◌≤◌, true, List, Option, is_some}
use Rattle.carriage.specs.Asked.{nothing_asked}
use Rattle.report_definition.specs.Below.chart_lines.ChartsWords.Chart.{Chart}
use Rattle.report_definition.specs.FollowedDecks.Stands.{Stand}
use Rattle.proof_reports.specs.Below.machine.Machine.{MachineState}
use Rattle.proof_reports.specs.Below.net.Cycles.{level_number, ordinal_number}
use Rattle.proof_reports.specs.Below.net.declared.cycle.Cycle.{Cycle}
use Rattle.proof_reports.specs.Below.net.declared.cycle.Cycle.TheVariants.{Card, Prog, Head}
use Rattle.proof_reports.specs.Below.net.declared.cycle.ProgramLevel.{ProgramLevel}
use Rattle.proof_reports.specs.Below.net.declared.cycle.Ordinal.{Ordinal}
use Rattle.proof_reports.specs.Below.net.declared.cycle.Ordinal.TheVariants.{Third}
use Rattle.proof_reports.specs.WiredPanels.CycleAsks.LinePlaces.CarriageCycles.{carriage_after}
use Rattle.proof_reports.specs.WiredPanels.CycleAsks.LinePlaces.Placing.{asked_of}
use Rattle.program_unit.specs.CycleOrder.{levels_to, top_level}
use Rattle.program_unit.specs.Program.{program_ended}
use Rattle.program_unit.specs.declared.stage.Stage.TheVariants.{RanCard}
use Rattle.report_definition.specs.BodyLines.{card_line, heading_line, total_line}
use Rattle.report_definition.specs.Breaks.{ended_after, taking}
use Rattle.report_definition.specs.ChartForm.{heading_count, prints_details, prints_totals}

-- A cycle other than a card cycle leaves the cards and goes on; the carriage was asked for the given.
pub record GoesOn (cycle : Cycle) (asked : _) (old new : MachineState) : Type 0 where
  pub stations : new.stations ≡ old.stations
  pub carriage : new.carriage ≡ carriage_after old.carriage asked cycle
  pub program : new.program ≡ program_ended old.program cycle

-- A heading cycle prints its heading line.
pub record Heads (chart : Chart) (heading : Ordinal) (old new : MachineState) : Type 0 where
  pub goes : GoesOn (Head heading) nothing_asked old new
  pub line : ordinal_number heading ≤ heading_count chart.lines → new.wheels.line ≡ heading_line chart.lines (ordinal_number heading)

-- The card cycle of a card with the next one after it, if there is one; the cards have moved on before it.
pub record RunsCard (chart : Chart) (stand : Stand) (card : List ℕ) (next : Option (List ℕ)) (old new : MachineState) :
    Type 0 where
  pub first : new.stations.first ≡ next
  pub carriage : new.carriage ≡ carriage_after old.carriage (asked_of chart.lines 0) Card
  pub stage : new.program.stage ≡ RanCard
  pub printing : new.program.printing ≡ old.program.printing
  pub levels : levels_to (top_level new.program (is_some next)) ≡ ended_after chart.lines card next
  pub line : prints_details chart.lines ≡ true → new.wheels.line ≡ card_line chart.lines stand.opens card

-- The third program cycle of a level.
pub record Totals (chart : Chart) (stand : Stand) (card : List ℕ) (level : ProgramLevel) (old new : MachineState) : Type 0 where
  pub goes : GoesOn (Prog level Third) (asked_of chart.lines (level_number level)) old new
  pub line : prints_totals chart.lines (level_number level) ≡ true
      → new.wheels.line ≡ total_line chart.lines (level_number level) (taking card stand.so_far (level_number level))
