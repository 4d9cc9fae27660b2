-- What the counters of a chart's totals hold and are asked, and a cycle as these totals tell it apart.
use Rattle.std.specs.Prelude.{ℕ, Bool, false, List, Option, Some, None}
use Rattle.proof_cycles.specs.TotalsWords.CounterCycles.Acts.{Act, Asks, Held}
use Rattle.proof_cycles.specs.TotalsWords.CounterCycles.Pairs.{AsksBoth}
use Rattle.proof_reports.specs.Below.chart_plans.PlansWords.Plans.{Lists}
use Rattle.proof_reports.specs.Below.chart_plans.declared.plans.counter.TotalCounter.{TotalCounter}
use Rattle.proof_reports.specs.Below.chart_plans.declared.plans.counter.TotalCounter.TheVariants as of
use Rattle.proof_reports.specs.Below.chart_lines.ChartsWords.Chart.{Chart}
use Rattle.proof_reports.specs.Below.chart_lines.declared.charts.chart.Line.{Line}
use Rattle.proof_reports.specs.Below.chart_lines.declared.charts.statement.Field.{Field}
use Rattle.proof_cycles.specs.Below.counters.Laws.{number_of_both}
use Rattle.proof_cycles.specs.Below.counters.Numbers.{number}
use Rattle.proof_reports.specs.Below.hubs.declared.hub.Hub.{Hub}
use Rattle.proof_reports.specs.Below.machine.Machine.{MachineState}
use Rattle.proof_reports.specs.Below.machine.Steady.{balance_latches}
use Rattle.proof_cycles.specs.Below.net.Cycles.{level_number}
use Rattle.proof_cycles.specs.Below.net.declared.cycle.Cycle.{Cycle}
use Rattle.proof_cycles.specs.Below.net.declared.cycle.Cycle.TheVariants.{Card, Head, Prog, RunIn}
use Rattle.proof_cycles.specs.Below.net.declared.cycle.Point.{Point}
use Rattle.proof_cycles.specs.Below.net.declared.cycle.ProgramLevel.{ProgramLevel}
use Rattle.proof_cycles.specs.Below.net.declared.cycle.Ordinal.{Ordinal}
use Rattle.report_definition.specs.Amounts.{digits_on, is_negated, number_in}
use Rattle.proof_reports.specs.Below.selectors.Contacts.{is_balance_set}
use Rattle.proof_cycles.specs.WholeCycles.Units.{group_at}
use Rattle.proof_cycles.specs.TotalsWords.Amounts.{Kind}
use Rattle.proof_cycles.specs.TotalsWords.Amounts.Kind.{Entry, Other, Prog as ProgKind}
use Rattle.wiring_table.specs.Figures.{IsAmount}
use Rattle.proof_reports.specs.WiredPanels.PanelCycles.{IsCardRead}
use Rattle.wiring_table.specs.Parts.{panel_group, top_group}
use Rattle.proof_reports.specs.WiredPanels.CycleAsks.ChartAmounts.{total_counter}

-- the number in a counter: that of its group, or of both groups as one
abbrev pub number_held : MachineState → TotalCounter → ℕ
number_held machine (of.Single group) = number (group_at machine (panel_group group)).digits
number_held machine (of.Coupled lower upper) =
    number_of_both (group_at machine (panel_group upper)).digits (group_at machine (panel_group lower)).digits

-- what a counter of a machine holds, if there is one: its number, and the latch of its top group
abbrev pub held_in : MachineState → Option TotalCounter → Held
held_in machine (Some counter) =
    record { number = number_held machine counter; latch = is_balance_set (balance_latches machine.groups) (top_group counter) }
held_in machine None = record { number = 0; latch = false }

-- what the counter of the total of an amount at a level holds
abbrev pub state_of : MachineState → List Line → Lists → List ℕ → ℕ → Held
state_of machine lines plan name level = held_in machine (total_counter lines plan name level)

-- by the pictures of a cycle's points this is asked of a counter that holds a number, of its group or of both
abbrev pub AsksCounter : Act → ℕ → TotalCounter → (Point → Hub → Bool) → Type 0
AsksCounter act held (of.Single group) pictures = Asks act held (panel_group group) pictures
AsksCounter act held (of.Coupled lower upper) pictures = AsksBoth act held (panel_group upper) (panel_group lower) pictures

-- A cycle as the totals of an amount tell it apart: a card cycle with the size of the amount on the card at second reading, negated or
-- not, a program cycle of a level, or another.
pub data IsKindOf (chart : Chart) (plan : Lists) (old : MachineState) (name : List ℕ) : Cycle → Kind → Type 0 where
  card : (card : List ℕ) (field : Field) → IsCardRead chart plan old card → IsAmount chart.lines name field
      → IsKindOf chart plan old name Card (Entry (is_negated field.kind card) (number_in (digits_on field card)))
  program : (l : ProgramLevel) (ordinal : Ordinal) → IsKindOf chart plan old name (Prog l ordinal) (ProgKind (level_number l) ordinal)
  run_in : IsKindOf chart plan old name RunIn Other
  heading : (ordinal : Ordinal) → IsKindOf chart plan old name (Head ordinal) Other
