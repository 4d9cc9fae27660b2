-- What the cycles of a panel wired for a chart leave of the carriage, the pilots, the storage units and the program unit.
use Rattle.std.proofs.Common.{◌≡◌, refl, ℕ, true, false, List, Option, Some, None, is_some}
use Rattle.proof_reports.specs.Below.chart_plans.PlansWords.Plans.{Lists}
use Rattle.report_definition.specs.Below.chart_rules.ValidCard.{IsValidCard}
use Rattle.report_definition.specs.Below.chart_lines.ChartsWords.Chart.{Chart, NumbersRise}
use Rattle.proof_reports.specs.Below.hubs.SetupsWords.Wiring.{Wiring}
use Rattle.proof_reports.proofs.WiredPanels.CycleAsks.ToCarriage.{carriage-after, carriage-after-other}
use Rattle.proof_reports.proofs.WiredPanels.AfterCycles.{pilots-after, pilots-after-other, program-after, units-after, units-after-other}
use Rattle.proof_reports.proofs.WiredPanels.Contacts.{is_card_cycle}
use Rattle.proof_reports.specs.WiredPanels.Panel.{IsPanel}
use Rattle.proof_reports.specs.WiredPanels.PanelCycles.{PilotsTellSigns, UnitsHold}
use Rattle.proof_reports.specs.Below.machine.Cycles.{CycleRun}
use Rattle.proof_reports.specs.Below.machine.Machine.{MachineState}
use Rattle.proof_reports.specs.Below.net.declared.cycle.Cycle.{Cycle}
use Rattle.proof_reports.specs.Below.net.declared.cycle.Cycle.TheVariants.{Card}
use Rattle.proof_reports.specs.WiredPanels.CycleAsks.LinePlaces.CarriageCycles.{carriage_after}
use Rattle.proof_reports.specs.WiredPanels.CycleAsks.LinePlaces.Placing.{kind_of}
use Rattle.program_unit.specs.CycleOrder.{levels_to, top_level}
use Rattle.report_definition.specs.Breaks.{ended_after}
use Rattle.proof_reports.specs.Below.selectors.Pilots.{moves_pilots}
use Rattle.proof_cycles.proofs.WholeCycles.Ready.{machines-ready}
use Rattle.proof_cycles.specs.WholeCycles.Between.{IsReady}
use Rattle.proof_reports.proofs.PrintedReports.Asked.{asked_for, asked_in}
use Rattle.proof_reports.proofs.PrintedReports.Facts.{Cycled}
use Rattle.proof_reports.proofs.PrintedReports.FromCycles.{whole, printing_stays}

module _ (chart : Chart) (plan : Lists) (wiring : Wiring) (panel : IsPanel chart plan wiring) where
  -- the carriage after any cycle
  asked :
      (cycle : Cycle) (old new : MachineState) → IsReady wiring old → CycleRun wiring cycle old new
      → new.carriage ≡ carriage_after old.carriage (asked_in chart cycle) cycle
  asked cycle old new is run = by (kind_of cycle) refl
    where
      by : (kind : Option ℕ) → kind_of cycle ≡ kind → new.carriage ≡ carriage_after old.carriage (asked_for chart kind) cycle
      by None none = carriage-after-other chart plan wiring cycle old new panel is.between (whole wiring cycle old new is run) none
      by (Some kind) some = carriage-after chart plan wiring cycle old new panel is.between (whole wiring cycle old new is run) kind some

  pub cycled :
      (cycle : Cycle) (old new : MachineState) → IsReady wiring old → CycleRun wiring cycle old new → Cycled chart wiring cycle old new
  cycled cycle old new is run =
      let all = whole wiring cycle old new is run in
      record {
        is_ready = machines-ready.kept wiring cycle old new is run;
        stations = all.stations;
        carriage = asked cycle old new is run;
        indicate = all.indicate;
        printing = printing_stays wiring cycle old new is run;
      }

  pub picked_up :
      (cycle : Cycle) (old new : MachineState) → IsReady wiring old → CycleRun wiring cycle old new → moves_pilots cycle ≡ true
      → PilotsTellSigns chart.lines plan old.stations.first new.pilots
  picked_up cycle old new is run moves =
      pilots-after chart plan wiring cycle old new panel is.between (whole wiring cycle old new is run) moves

  pub kept :
      (cycle : Cycle) (old new : MachineState) (signs : Option (List ℕ)) → IsReady wiring old → CycleRun wiring cycle old new
      → moves_pilots cycle ≡ false → PilotsTellSigns chart.lines plan signs old.pilots → PilotsTellSigns chart.lines plan signs new.pilots
  kept cycle old new signs is run stays tell =
      pilots-after-other chart plan wiring cycle old new panel is.between (whole wiring cycle old new is run) signs stays tell

  pub levels :
      (old new : MachineState) (card : List ℕ) (next : Option (List ℕ)) → IsReady wiring old → CycleRun wiring Card old new
      → old.stations.second ≡ Some card → old.stations.first ≡ next → IsValidCard chart card
      → ((d : List ℕ) → next ≡ Some d → IsValidCard chart d)
      → levels_to (top_level new.program (is_some next)) ≡ ended_after chart.lines card next
  levels old new card None is run second first reads reads_next = refl
  levels old new card (Some next) is run second first reads reads_next =
      program-after chart plan wiring old new card next panel is.between (whole wiring Card old new is run) second first
      reads (reads_next next refl)

  pub stores :
      (old new : MachineState) (card : List ℕ) → NumbersRise chart.lines chart.end → IsReady wiring old → CycleRun wiring Card old new
      → old.stations.second ≡ Some card → UnitsHold chart.lines plan card new.storage
  stores old new card rise is run second =
      units-after chart plan wiring Card old new panel is.between (whole wiring Card old new is run) card rise refl second

  pub keeps_stored :
      (cycle : Cycle) (old new : MachineState) (card : List ℕ) → IsReady wiring old → CycleRun wiring cycle old new
      → is_card_cycle cycle ≡ false → UnitsHold chart.lines plan card old.storage → UnitsHold chart.lines plan card new.storage
  keeps_stored cycle old new card is run other held =
      units-after-other chart plan wiring cycle old new panel is.between (whole wiring cycle old new is run) card other held
