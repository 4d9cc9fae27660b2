-- The machine after a whole cycle of a panel that is wired for a chart: the pilots, the storage units and the level called for.
use Rattle.std.proofs.Common.{◌≡◌, ◌∙◌, sym, ap, subst, ℕ, true, false, List, Option, Some}
use Rattle.wiring_table.specs.Below.chart_plans.PlansWords.Plans.{Lists}
use Rattle.wiring_table.specs.Below.chart_rules.ValidCard.{IsValidCard}
use Rattle.wiring_table.specs.Below.chart_lines.ChartsWords.Chart.{Chart, NumbersRise}
use Rattle.wiring_table.specs.Below.hubs.SetupsWords.Wiring.{Wiring}
use Rattle.proof_cycles.specs.Below.machine.Machine.{MachineState}
use Rattle.proof_cycles.specs.Below.net.declared.cycle.Cycle.{Cycle}
use Rattle.proof_cycles.specs.Below.net.declared.cycle.Cycle.TheVariants.{Card}
use Rattle.program_unit.specs.CycleOrder.{levels_to}
use Rattle.program_unit.specs.Program.{ProgramState}
use Rattle.report_definition.specs.Breaks.{highest}
use Rattle.proof_cycles.specs.Below.selectors.Pilots.{PilotStates, moves_pilots}
use Rattle.proof_cycles.specs.Below.storage_units.Storage.{StorageState}
use Rattle.proof_cycles.specs.WholeCycles.Between.{IsBetween}
use Rattle.proof_cycles.specs.WholeCycles.WholeCycles.{WholeCycle}
use Rattle.proof_reports.proofs.WiredPanels.Contacts.{is_card_cycle}
use Rattle.proof_reports.proofs.WiredPanels.ToComparing.{highest-called}
use Rattle.proof_reports.proofs.WiredPanels.ToPilots.{pilots-tell, pilots-kept}
use Rattle.proof_reports.proofs.WiredPanels.ToStorage.{units-hold, units-kept}
use Rattle.proof_reports.specs.WiredPanels.Panel.{IsPanel}
use Rattle.proof_reports.specs.WiredPanels.PanelCycles.{IsPanelCycle, PilotsTellSigns, UnitsHold}

-- a whole cycle of a panel, told by its pictures
pub cycle-of :
    (chart : Chart) (plan : Lists) (wiring : Wiring) (cycle : Cycle) (old new : MachineState) → IsPanel chart plan wiring → IsBetween old
    → (whole : WholeCycle wiring cycle old new) → IsPanelCycle chart plan wiring old cycle whole.pictures
cycle-of chart plan wiring cycle old new panel between whole = record {
  panel = panel;
  between = between;
  control = whole.control;
  rows = whole.rows;
}

module _ (chart : Chart) (plan : Lists) (wiring : Wiring) (cycle : Cycle) (old new : MachineState)
    (panel : IsPanel chart plan wiring) (between : IsBetween old) (whole : WholeCycle wiring cycle old new) where
  its_cycle : IsPanelCycle chart plan wiring old cycle whole.pictures
  its_cycle = cycle-of chart plan wiring cycle old new panel between whole

  -- The pilots tell the signs of the card at first reading, after the run-in and card cycles.
  pub pilots-after : moves_pilots cycle ≡ true → PilotsTellSigns chart.lines plan old.stations.first new.pilots
  pilots-after moves =
      subst (λ (pilots : PilotStates). PilotsTellSigns chart.lines plan old.stations.first pilots) (sym whole.pilots)
      (pilots-tell chart plan wiring old cycle whole.pictures its_cycle moves)

  -- Other cycles leave them.
  pub pilots-after-other : (card : Option (List ℕ)) → moves_pilots cycle ≡ false → PilotsTellSigns chart.lines plan card old.pilots
      → PilotsTellSigns chart.lines plan card new.pilots
  pilots-after-other card stays tell =
      subst (λ (pilots : PilotStates). PilotsTellSigns chart.lines plan card pilots) (sym whole.pilots)
      (pilots-kept chart plan wiring old cycle whole.pictures its_cycle card stays tell)

  -- The storage units hold the texts of the card at second reading, after a card cycle.
  pub units-after : (card : List ℕ) → NumbersRise chart.lines chart.end → cycle ≡ Card → old.stations.second ≡ Some card
      → UnitsHold chart.lines plan card new.storage
  units-after card rising is_card stands =
      subst (λ (units : List StorageState). UnitsHold chart.lines plan card units) (sym whole.storage)
      (units-hold chart plan wiring old cycle whole.pictures its_cycle card rising is_card stands)

  -- Other cycles leave what they hold.
  pub units-after-other : (card : List ℕ) → is_card_cycle cycle ≡ false → UnitsHold chart.lines plan card old.storage
      → UnitsHold chart.lines plan card new.storage
  units-after-other card none held =
      subst (λ (units : List StorageState). UnitsHold chart.lines plan card units) (sym whole.storage)
      (units-kept chart plan wiring old cycle whole.pictures its_cycle card none held)

-- After a card cycle the highest level called for is that of the break between the cards at the stations.
pub program-after :
    (chart : Chart) (plan : Lists) (wiring : Wiring) (old new : MachineState) (card next : List ℕ)
    → IsPanel chart plan wiring → IsBetween old → WholeCycle wiring Card old new → old.stations.second ≡ Some card
    → old.stations.first ≡ Some next → IsValidCard chart card → IsValidCard chart next
    → levels_to new.program.highest ≡ highest chart.lines card next
program-after chart plan wiring old new card next panel between whole stands waits valid valid' =
    ap (λ (program : ProgramState). levels_to program.highest) whole.program
    ∙ highest-called chart plan wiring old whole.pictures (cycle-of chart plan wiring Card old new panel between whole) whole.closing card next
    stands waits valid valid'
