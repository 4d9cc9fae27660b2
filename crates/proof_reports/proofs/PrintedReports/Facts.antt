-- What is known of the cycles of a machine that is wired for a chart, cycle by cycle.
use Rattle.std.proofs.Common.{◌≡◌, ℕ, ◌≤◌, ◌<◌, ◌^◌, true, false, List, unsigned_abs}
use Rattle.std.specs.Int.{is_negative}
use Rattle.proof_cycles.specs.TotalsWords.CounterCycles.Acts.{Held}
use Rattle.proof_reports.specs.Below.chart_plans.PlansWords.Plans.{Lists}
use Rattle.report_definition.specs.Below.chart_lines.ChartsWords.Chart.{Chart}
use Rattle.report_definition.specs.Below.chart_lines.declared.charts.statement.Field.{Field}
use Rattle.proof_reports.specs.Below.hubs.SetupsWords.Wiring.{Wiring}
use Rattle.proof_reports.specs.WiredPanels.CycleAsks.ChartAmounts.{amount_of}
use Rattle.proof_reports.specs.WiredPanels.PanelCycles.{IsCardRead}
use Rattle.proof_reports.specs.Below.machine.Machine.{MachineState}
use Rattle.proof_reports.specs.Below.net.declared.cycle.Cycle.{Cycle}
use Rattle.proof_reports.specs.Below.net.declared.cycle.Cycle.TheVariants.{RunIn, Card, Prog, Head}
use Rattle.proof_reports.specs.WiredPanels.CycleAsks.LinePlaces.CarriageCycles.{carriage_after}
use Rattle.report_definition.specs.Totals.{total_of}
use Rattle.proof_reports.specs.Below.selectors.Indicate.{indicate_ended}
use Rattle.proof_cycles.specs.WholeCycles.Between.{IsReady}
use Rattle.proof_reports.proofs.PrintedReports.Asked.{asked_in}

-- A cycle leaves the machine ready and the cards where they were, and the carriage was asked for what the chart asks in it.
pub record Cycled (chart : Chart) (wiring : Wiring) (cycle : Cycle) (old new : MachineState) : Type 0 where
  pub is_ready : IsReady wiring new
  pub stations : new.stations ≡ old.stations
  pub carriage : new.carriage ≡ carriage_after old.carriage (asked_in chart cycle) cycle
  pub indicate : new.indicate ≡ indicate_ended old.indicate cycle
  pub printing : new.program.printing ≡ old.program.printing

-- In a card cycle the card is read; in others nothing is asked.
abbrev pub IsRead : Chart → Lists → Cycle → List ℕ → MachineState → Type 0
IsRead chart plan Card card old = IsCardRead chart plan old card
IsRead chart plan RunIn card old = Unit {0}
IsRead chart plan (Prog level ordinal) card old = Unit {0}
IsRead chart plan (Head heading) card old = Unit {0}

-- A total is held so that it prints as the total of a group.
pub record ShowsTotal (chart : Chart) (plan : Lists) (level : ℕ) (group : List (List ℕ)) (name : List ℕ) (field : Field)
    (holds : Held) : Type 0 where
  pub figure : holds.number ≡ unsigned_abs (total_of field group)
  pub below : is_negative (total_of field group) ≡ true → holds.latch ≡ true
  pub above : (amount_of chart.lines plan name).is_signed ≡ true → is_negative (total_of field group) ≡ false
      → 1 ≤ unsigned_abs (total_of field group) → holds.latch ≡ false
  pub fits : unsigned_abs (total_of field group) < 10 ^ (amount_of chart.lines plan name).digits level
  pub unsigned : (amount_of chart.lines plan name).is_signed ≡ false → is_negative (total_of field group) ≡ false
