-- Laws of the units of a panel that is wired for a chart: what a cycle leaves in the pilots, the storage units and the program unit.
use Rattle.std.specs.Prelude.{◌≡◌, ◌≢◌, ℕ, true, false, List, Option, Some}
use Rattle.wiring_table.specs.Below.chart_plans.PlansWords.Plans.{Lists}
use Rattle.wiring_table.specs.Below.chart_rules.ValidCard.{IsValidCard}
use Rattle.wiring_table.specs.Below.chart_lines.ChartsWords.Chart.{Chart, NumbersRise}
use Rattle.wiring_table.specs.Below.hubs.SetupsWords.Wiring.{Wiring}
use Rattle.proof_cycles.specs.Below.machine.Machine.{MachineState}
use Rattle.proof_cycles.specs.Below.net.declared.cycle.Cycle.{Cycle}
use Rattle.proof_cycles.specs.Below.net.declared.cycle.Cycle.TheVariants.{Card}
use Rattle.program_unit.specs.CycleOrder.{levels_to}
use Rattle.report_definition.specs.Breaks.{highest}
use Rattle.proof_cycles.specs.Below.selectors.Pilots.{moves_pilots}
use Rattle.proof_cycles.specs.WholeCycles.Between.{IsBetween}
use Rattle.proof_cycles.specs.WholeCycles.WholeCycles.{WholeCycle}
use Rattle.proof_reports.specs.WiredPanels.Panel.{IsPanel}
use Rattle.proof_reports.specs.WiredPanels.PanelCycles.{PilotsTellSigns, UnitsHold}

-- After the run-in and each card cycle the pilots tell the signs of the card that stood at first reading; other cycles leave them.
abbrev pub PilotsTellTheNextCard : Type 0
PilotsTellTheNextCard =
    (chart : Chart) (plan : Lists) (wiring : Wiring) (cycle : Cycle) (old new : MachineState)
    → IsPanel chart plan wiring → IsBetween old → WholeCycle wiring cycle old new
    → (moves_pilots cycle ≡ true → PilotsTellSigns chart.lines plan old.stations.first new.pilots)
    × ((card : Option (List ℕ)) → moves_pilots cycle ≡ false → PilotsTellSigns chart.lines plan card old.pilots
    → PilotsTellSigns chart.lines plan card new.pilots)

-- After a card cycle the storage units hold the texts of the card that stood at second reading; other cycles leave them.
abbrev pub UnitsHoldTheCard : Type 0
UnitsHoldTheCard =
    (chart : Chart) (plan : Lists) (wiring : Wiring) (cycle : Cycle) (old new : MachineState) (card : List ℕ)
    → IsPanel chart plan wiring → NumbersRise chart.lines chart.end → IsBetween old → WholeCycle wiring cycle old new
    → (cycle ≡ Card → old.stations.second ≡ Some card → UnitsHold chart.lines plan card new.storage)
    × (cycle ≢ Card → UnitsHold chart.lines plan card old.storage → UnitsHold chart.lines plan card new.storage)

-- After a card cycle with a card after it the levels that are called for are those of the break between the two cards.
abbrev pub BreaksCallLevels : Type 0
BreaksCallLevels =
    (chart : Chart) (plan : Lists) (wiring : Wiring) (old new : MachineState) (card next : List ℕ)
    → IsPanel chart plan wiring → IsBetween old → WholeCycle wiring Card old new
    → old.stations.second ≡ Some card → old.stations.first ≡ Some next → IsValidCard chart card → IsValidCard chart next
    → levels_to new.program.highest ≡ highest chart.lines card next
