-- Laws of the counters and of the carriage of a panel that is wired for a chart.
use Rattle.std.specs.Prelude.{◌≡◌, ℕ, Bool, List, Some, None}
use Rattle.proof_reports.specs.Below.chart_plans.PlansWords.Plans.{Lists}
use Rattle.proof_reports.specs.Below.chart_plans.declared.plans.counter.TotalCounter.{TotalCounter}
use Rattle.carriage.specs.Asked.{nothing_asked}
use Rattle.proof_reports.specs.Below.chart_lines.ChartsWords.Chart.{Chart, NumbersRise}
use Rattle.proof_reports.specs.Below.hubs.SetupsWords.Wiring.{Wiring}
use Rattle.proof_reports.specs.Below.hubs.declared.hub.Hub.{Hub}
use Rattle.proof_reports.specs.Below.machine.Machine.{MachineState}
use Rattle.proof_cycles.specs.Below.net.declared.cycle.Cycle.{Cycle}
use Rattle.proof_cycles.specs.Below.net.declared.cycle.Point.{Point}
use Rattle.proof_reports.specs.WiredPanels.CycleAsks.LinePlaces.CarriageCycles.{carriage_after}
use Rattle.proof_reports.specs.WiredPanels.CycleAsks.LinePlaces.Placing.{asked_of, kind_of}
use Rattle.proof_cycles.specs.TotalsWords.Amounts.{IsSmall, Kind, act_of}
use Rattle.proof_cycles.specs.WholeCycles.Between.{IsBetween}
use Rattle.proof_cycles.specs.WholeCycles.WholeCycles.{WholeCycle}
use Rattle.proof_reports.specs.WiredPanels.CycleAsks.ChartAmounts.{amount_of}
use Rattle.proof_reports.specs.WiredPanels.CycleAsks.CounterStates.{AsksCounter, IsKindOf, state_of}
use Rattle.proof_reports.specs.WiredPanels.Groups.{IsCounterOf}
use Rattle.proof_reports.specs.WiredPanels.Panel.{IsPanel}
use Rattle.proof_reports.specs.WiredPanels.PanelCycles.{IsPanelCycle}

-- In each cycle the counter of a total is asked what the totals of the amount do in a cycle of that kind.
abbrev pub GroupsAreAskedForTotals : Type 0
GroupsAreAskedForTotals =
    (chart : Chart) (plan : Lists) (wiring : Wiring) (old : MachineState) (pictures : Point → Hub → Bool) (name : List ℕ) (level : ℕ)
    (counter : TotalCounter) (cycle : Cycle) (kind : Kind)
    → IsPanelCycle chart plan wiring old cycle pictures → NumbersRise chart.lines chart.end
    → IsCounterOf chart.lines plan name level counter → IsKindOf chart plan old name cycle kind
    → IsSmall (amount_of chart.lines plan name) kind (state_of old chart.lines plan name)
    → AsksCounter (act_of (amount_of chart.lines plan name) kind (state_of old chart.lines plan name) level)
    (state_of old chart.lines plan name level).number counter pictures

-- In the cycle of a kind of body line the carriage does what the chart asks for that kind, and in other cycles what the cycle alone makes it do.
abbrev pub CarriageDoesWhatIsAsked : Type 0
CarriageDoesWhatIsAsked =
    (chart : Chart) (plan : Lists) (wiring : Wiring) (cycle : Cycle) (old new : MachineState)
    → IsPanel chart plan wiring → IsBetween old → WholeCycle wiring cycle old new
    → ((kind : ℕ) → kind_of cycle ≡ Some kind → new.carriage ≡ carriage_after old.carriage (asked_of chart.lines kind) cycle)
    × (kind_of cycle ≡ None → new.carriage ≡ carriage_after old.carriage nothing_asked cycle)
